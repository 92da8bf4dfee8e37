-- What a space–time diagram is made of: shades and colours, lists by their elements, the bytes of a bitmap.
pub mod Colours
pub mod Listed
pub mod Bitmap

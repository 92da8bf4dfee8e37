-- What `codes` says of a key's code is what is said of the key.
use mathlib.Core.Path.{◌≡◌, ◌∙◌, refl, ap}
use mathlib.Core.Bool.{Bool}
use mathlib.Core.List.{List, [], ◌∷◌}
use Prim.Native.Nat.{ℕ, ◌+◌}
use native.Mathlib.Omega.{arith}
use lib.Dec.{eqb}
use borrow.Author.Tests.{ne_eqb}
use Rattle.std.specs.Prelude.{Option, Some, None, position}
use Rattle.std.specs.Option.{unwrap_or, option_map}
use Rattle.cli_vocabulary.specs.Pieces.{lines, words}
use Rattle.cli_vocabulary.specs.Keys.{place, is_key, key_named, key_of}
use Rattle.cli_vocabulary.specs.Codes.{unknown_key, key_none, code_at, line_code}
use Rattle.cli_vocabulary.specs.declared.keys.Key.{Key}
use Rattle.cli_vocabulary.proofs.KeyTable.{placed, unplaced}
use Rattle.cli_scenario.specs.Judging.{wrong_value}
use Rattle.cli_scenario.specs.Values.{all_values, given, gathered, values_of, line_of}
use Rattle.cli_scenario.specs.Codes.{numbered, wrong_value as wrong_coded, all_values as all_coded, given as given_coded, gathered as gathered_coded, values_of as values_coded, line_of as line_coded}

module _ (key : Key) where
  same_key : (named : Option Key) → eqb (code_at named) (place key) ≡ is_key key named
  same_key None = ne_eqb unknown_key (place key) (unplaced key unknown_key (omega arith))
  same_key (Some other) = refl

  same_line_key : (ws : List (List ℕ)) → eqb (line_code ws) (place key) ≡ is_key key (key_of ws)
  same_line_key [] = ne_eqb key_none (place key) (unplaced key key_none (omega arith))
  same_line_key (w ∷ ws) = same_key (key_named w)

  same_all : (ws : List (List ℕ)) → all_coded (place key) ws ≡ all_values key ws
  unfolding all_coded all_values
  same_all [] = refl
  same_all (w ∷ ws) = rw (placed key, same_all ws) refl

  same_given : (ws : List (List ℕ)) → given_coded (place key) ws ≡ given key ws
  unfolding given_coded given
  same_given [] = refl
  same_given (w ∷ ws) = rw (same_key (key_named w), same_all ws) refl

  same_gathered : (ls : List (List ℕ)) → gathered_coded (place key) ls ≡ gathered key ls
  unfolding gathered_coded gathered
  same_gathered [] = refl
  same_gathered (l ∷ ls) = rw (same_given (words l), same_gathered ls) refl

  pub same_values : (text : List ℕ) → values_coded (place key) text ≡ values_of key text
  same_values text = same_gathered (lines text)

  pub same_line : (text : List ℕ) → line_coded (place key) text ≡ unwrap_or (line_of key text) 0
  same_line text =
      ap (λ (test : List (List ℕ) → Bool). numbered (position (λ line. test (words line)) (lines text))) (λ i ws. same_line_key ws i)
      ∙ by_place (position (λ line. is_key key (key_of (words line))) (lines text))
    where
      by_place : (found : Option ℕ) → numbered found ≡ unwrap_or (option_map (λ n. n + 1) found) 0
      by_place None = refl
      by_place (Some n) = refl

  pub same_wrong : (ws : List (List ℕ)) → wrong_coded (place key) ws ≡ wrong_value key ws
  unfolding wrong_coded wrong_value
  same_wrong [] = refl
  same_wrong (w ∷ ws) = rw (placed key, same_wrong ws) refl

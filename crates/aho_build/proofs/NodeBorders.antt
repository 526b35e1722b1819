-- The borders of the kept patterns part each byte that ends a node from all others.
use Rattle.std.proofs.Common.{◌≡◌, ℕ, ◌+◌, ◌<◌, Bool, true, ◌&&◌, nat_eq, List, ◌++◌, length, get_or, map, refl, sym, ap, ◌∙◌, inl, inr, arith}
use Rattle.std.proofs.lemmas.Bool.{eqb-true, eq-eqb, or_cases, or_left, or_right, and_from}
use Rattle.std.proofs.lemmas.List.{get_or-map, get_or_append_left, get_or_push, length-map, length-append, length_push}
use Rattle.std.proofs.lemmas.List.Folds.{list_any_at}
use Rattle.aho_core.specs.Bytes.{folded, folded_by}
use Rattle.aho_core.specs.Patterns.{Patterns, pattern_at}
use Rattle.aho_core.specs.Trie.{is_kept, is_node, pattern_word}
use Rattle.aho_laws.specs.TrieLaws.{BeginsKept}
use Rattle.aho_laws.proofs.Begins.{any-from}
use Rattle.aho_laws.proofs.Kept.{is_node-reads}
use Rattle.aho_table.specs.Alphabet.{HasItsEdges}
use Rattle.aho_build.specs.Dense.{HasBorders, has_folded, is_parted_by}
use Rattle.aho_build.specs.Trie.{longer}

word_is : (p : Patterns) (k : ℕ) → pattern_word p k ≡ map (folded p) (pattern_at p k)
unfolding pattern_word
word_is p k = refl

module _ (p : Patterns) (word : List ℕ) (byte : ℕ) where
  -- a pattern that begins with a word and a byte has that byte
  has_folded-begun : (k : ℕ) (rest : List ℕ) → longer p word byte ++ rest ≡ pattern_word p k → has_folded p.ignore_case (pattern_at p k) byte ≡ true
  has_folded-begun k rest whole =
      let letters = pattern_at p k in
      let is : longer p word byte ++ rest ≡ map (folded p) letters = whole ∙ word_is p k in
      let short : length (longer p word byte) ≡ length word + 1 = length_push word (folded p byte) in
      let within : length word < length letters =
      omega (arith, ap (λ (xs : List ℕ). length xs) is, length-append (longer p word byte) rest, length-map letters (folded p)) in
      let read : folded p (get_or letters (length word) 0) ≡ folded p byte =
      sym (get_or-map (folded p) letters (length word) 0 0 within) ∙ ap (λ (xs : List ℕ). get_or xs (length word) 0) (sym is)
      ∙ get_or_append_left (longer p word byte) rest 0 (length word) (omega arith) ∙ get_or_push word (folded p byte) 0 (length word) refl in
      list_any_at (λ (other : ℕ). nat_eq (folded_by p.ignore_case other) (folded_by p.ignore_case byte)) letters (length word) 0 within
      (eq-eqb (folded_by p.ignore_case (get_or letters (length word) 0)) (folded_by p.ignore_case byte) read)

  edges-kept : (borders : List Bool) → HasBorders p borders → BeginsKept p (longer p word byte) → HasItsEdges borders byte
  edges-kept borders has begins at within edge =
      let here = has_folded-begun begins.number begins.rest begins.whole in
      let letters = pattern_at p begins.number in
      let parted : is_parted_by p.ignore_case letters at ≡ true =
      elim (or_cases (nat_eq (at + 1) byte) (nat_eq at byte) edge) [
        | inl below ↦ or_right (has_folded p.ignore_case letters at) (has_folded p.ignore_case letters (at + 1))
            (ap (has_folded p.ignore_case letters) (eqb-true (at + 1) byte below) ∙ here)
        | inr above ↦ or_left (has_folded p.ignore_case letters at) (has_folded p.ignore_case letters (at + 1))
            (ap (has_folded p.ignore_case letters) (eqb-true at byte above) ∙ here)
      ] in
      has at within
      ∙ any-from (λ (k : ℕ). is_kept p k && is_parted_by p.ignore_case (pattern_at p k) at) 0 (length p.words) begins.number (omega arith) (omega (arith, begins.numbered))
      (and_from (is_kept p begins.number) (is_parted_by p.ignore_case letters at) begins.kept parted)

  pub edges-node : (borders : List Bool) → HasBorders p borders → is_node p (longer p word byte) ≡ true → HasItsEdges borders byte
  edges-node borders has node =
      elim ((is_node-reads p (longer p word byte)).0 node) [
        | inl none ↦ absurd (omega (arith, ap (λ (xs : List ℕ). length xs) none, length_push word (folded p byte)))
        | inr begins ↦ edges-kept borders has begins
      ]

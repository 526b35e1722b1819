-- The patterns of sources, one after another, as the lines of one text.
use Rattle.acgrep.proofs.Common.{Consumes, IsAtEnd, Keeps, Nowhere, StartsWith, cases_Bool, common_steps, is_input}
use Rattle.std.proofs.Common.{◌++◌, ◌-◌, ◌<◌, ◌==◌, ◌∙◌, ◌∷◌, ◌≡◌, List, Option, [], ap, arith, codes, drop, false, inl, inr, length, refl, subst, suc, sym, true, ℕ}
use Rattle.std.proofs.KnownBytes.{starts_with_rest}
use Rattle.std.specs.Prelude.{IfSome}
use Rattle.acgrep.specs.Lines.{EndsLine, IsEnding, joined_to, lines}
use Rattle.acgrep.specs.Gathered.{AddsGiven}
use Rattle.acgrep.specs.Loading.{AddsText}
use Rattle.acgrep.specs.Runs.{AreOf}
use Rattle.acgrep.proofs.FirstLines.{lines_joined}
use Rattle.acgrep.proofs.LineLists.{lines_append}

-- a newline behind a text that ends in none makes no further line
lines_closed : (text : List ℕ) → 0 < length text → (IsEnding 10 text (length text - 1) → ⊥) → lines 10 (text ++ codes "\n") ≡ lines 10 text
lines_closed [] some bare = absurd (omega (arith, some))
lines_closed (byte ∷ []) some bare =
    elim (cases_Bool (byte == 10)) [
      | inl is ↦
          let last : 0 ≡ length (byte ∷ []) - 1 = omega arith in
          absurd (bare (subst (IsEnding 10 (byte ∷ [])) last is))
      | inr other ↦ lines_joined 10 byte (codes "\n") other ∙ sym (lines_joined 10 byte [] other)
    ]
lines_closed (byte ∷ next ∷ rest) some bare =
    let last : suc (length (next ∷ rest) - 1) ≡ length (byte ∷ next ∷ rest) - 1 = omega arith in
    let IH : lines 10 ((next ∷ rest) ++ codes "\n") ≡ lines 10 (next ∷ rest) =
    lines_closed (next ∷ rest) (omega arith) (λ is. bare (subst (IsEnding 10 (byte ∷ next ∷ rest)) last is)) in
    elim (cases_Bool (byte == 10)) [
      | inl is ↦ rw is (ap (λ (l : List (List ℕ)). [] ∷ l) IH)
      | inr other ↦ lines_joined 10 byte ((next ∷ rest) ++ codes "\n") other ∙ ap (joined_to byte) IH ∙ sym (lines_joined 10 byte (next ∷ rest) other)
    ]

-- what follows the last newline is not empty: a newline behind it ends the last line
pub lines_ended : (text : List ℕ) (start : ℕ) → start < length text → Nowhere (IsEnding 10 text) start (length text) → lines 10 (text ++ codes "\n") ≡ lines 10 text
lines_ended text start some none = lines_closed text (omega (arith, some)) (none (length text - 1) (omega (arith, some)) (omega (arith, some)))

module _ (holds : List ℕ → Option (List ℕ)) where
  -- all that a reader has of a file that is known
  text_kept : (known left left' : Option (List ℕ)) (text : List ℕ) → Keeps known left → Consumes left left' text → IsAtEnd left' → IfSome known (λ (bytes : List ℕ). text ≡ bytes)
  text_kept known left left' text kept read end = grind (arith, common_steps)

  -- what was read of the input stands behind the bytes before
  pub input_added : (name old new : List ℕ) (left left' : Option (List ℕ)) → is_input name ≡ true → StartsWith new old → Consumes left left' (drop (length old) new) → IsAtEnd left'
      → AddsText holds name left left' old new
  input_added name old new left left' is starts read end = record {
    text = drop (length old) new;
    grown = starts_with_rest new old starts;
    is = rw is (read, end);
  }

  -- and so does what was read of a file
  pub file_added : (name old new : List ℕ) (left file file' : Option (List ℕ)) → is_input name ≡ false → Keeps (holds name) file → StartsWith new old → Consumes file file' (drop (length old) new) → IsAtEnd file'
      → AddsText holds name left left old new
  file_added name old new left file file' is kept starts read end = record {
    text = drop (length old) new;
    grown = starts_with_rest new old starts;
    is = rw is (refl, text_kept (holds name) file file' (drop (length old) new) kept read end);
  }

  -- the text of a file adds its lines
  pub file_words : (name : List ℕ) (left left' : Option (List ℕ)) (old between new : List ℕ) → EndsLine 10 old → AddsText holds name left left' old between → lines 10 new ≡ lines 10 between
      → AddsGiven (AreOf holds (record { is_file = true; bytes = name }) left left') (lines 10 old) (lines 10 new)
  file_words name left left' old between new ends added same = record {
    more = lines 10 added.text;
    grown = same ∙ ap (lines 10) added.grown ∙ lines_append 10 old added.text ends;
    of = record { text = added.text; is = added.is; are = refl };
  }

  -- a text adds its lines
  pub text_words : (text old new : List ℕ) (left : Option (List ℕ)) → EndsLine 10 old → new ≡ old ++ (text ++ codes "\n")
      → AddsGiven (AreOf holds (record { is_file = false; bytes = text }) left left) (lines 10 old) (lines 10 new)
  text_words text old new left ends added = record {
    more = lines 10 (text ++ codes "\n");
    grown = ap (lines 10) added ∙ lines_append 10 old (text ++ codes "\n") ends;
    of = (refl, refl);
  }

-- Bytes that were copied up to a place, with a piece for each run before it.
use Rattle.std.proofs.lemmas.Bool.{cond-true, cond-false, le-leb, lt-leb}
use Rattle.std.proofs.Common.{◌≡◌, inl, inr, ℕ, ◌+◌, ◌-◌, ◌<◌, ◌≤◌, List, [], ◌∷◌, ◌++◌, length, drop, take, refl, sym, ◌∙◌, ap, arith, append_assoc, append-nil, length-append}
use Rattle.std.specs.Prelude.{slice_range, nat_le}
use Rattle.std.specs.Io.{StartsWith}
use Rattle.std.proofs.Math.Seq.{take-append-add}
use Rattle.std.proofs.lemmas.List.{take-append-drop, take-append-le, take_all, drop-drop, drop_at}
use Rattle.aho_core.specs.Listing.{IsMember}
use Rattle.aho_core.specs.Occurrence.{Occurrence}
use Rattle.aho_core.specs.Replacement.{replaced_from}
use Rattle.aho_automaton.proofs.Places.{length_part, no_part, part_join, part_of_part}
use Rattle.aho_stream.specs.After.{EndsWith}
use Rattle.aho_cover.specs.Covers.{covered_up_to}
use Rattle.aho_cover.specs.Pieces.{covered_through}
use Rattle.aho_cover.specs.Progress.{copied_to}

-- a list begins with its first part
pub begins_with : (front rest : List ℕ) → StartsWith (front ++ rest) front
begins_with front rest = take-append-le (length front) front rest (omega arith) ∙ take_all (length front) front (omega arith)

-- and where it begins with some bytes, with the first of these too
pub begins_shorter : (all written bytes : List ℕ) (n : ℕ) → n ≤ length bytes → StartsWith all (written ++ bytes) → StartsWith all (written ++ take n bytes)
begins_shorter all written bytes n within starts =
    let split : written ++ bytes ≡ (written ++ take n bytes) ++ drop n bytes = ap (λ (xs : List ℕ). written ++ xs) (sym (take-append-drop n bytes)) ∙ sym (append_assoc written (take n bytes) (drop n bytes)) in
    let whole : all ≡ (written ++ bytes) ++ drop (length (written ++ bytes)) all = sym (take-append-drop (length (written ++ bytes)) all) ∙ ap (λ (xs : List ℕ). xs ++ drop (length (written ++ bytes)) all) starts in
    let longer : all ≡ (written ++ take n bytes) ++ (drop n bytes ++ drop (length (written ++ bytes)) all) =
    whole ∙ ap (λ (xs : List ℕ). xs ++ drop (length (written ++ bytes)) all) split ∙ append_assoc (written ++ take n bytes) (drop n bytes) (drop (length (written ++ bytes)) all) in
    ap (take (length (written ++ take n bytes))) longer ∙ begins_with (written ++ take n bytes) (drop n bytes ++ drop (length (written ++ bytes)) all)

-- what begins with some bytes does so with more behind it
pub begins_longer : (all more front : List ℕ) → StartsWith all front → StartsWith (all ++ more) front
begins_longer all more front starts =
    let rest = drop (length front) all in
    let whole : all ≡ front ++ rest = sym (take-append-drop (length front) all) ∙ ap (λ (xs : List ℕ). xs ++ rest) starts in
    ap (λ (xs : List ℕ). take (length front) (xs ++ more)) whole ∙ ap (take (length front)) (append_assoc front rest more) ∙ begins_with front (rest ++ more)

-- and behind the same bytes
begins_behind : (front all first : List ℕ) → StartsWith all first → StartsWith (front ++ all) (front ++ first)
begins_behind front all first starts = ap (λ (n : ℕ). take n (front ++ all)) (length-append front first) ∙ take-append-add front all (length first) ∙ ap (λ (xs : List ℕ). front ++ xs) starts

-- each ends at a place or before
abbrev pub EndBy : List Occurrence → ℕ → Type 0
EndBy runs place = (x : Occurrence) → IsMember runs x → x.end ≤ place

-- no byte stands between a place and one before it
pub nothing_between : (haystack : List ℕ) (start end : ℕ) → end ≤ start → slice_range haystack start end ≡ []
nothing_between haystack start end past = let none : end - start ≡ 0 = omega arith in ap (λ (n : ℕ). take n (drop start haystack)) none

-- the part behind a place
part-rest : (haystack : List ℕ) (at place : ℕ) → at ≤ place → drop at haystack ≡ slice_range haystack at place ++ drop place haystack
part-rest haystack at place le =
    let count : (place - at) + at ≡ place = omega arith in
    let other : at + (place - at) ≡ place = omega arith in
    sym (take-append-drop (place - at) (drop at haystack))
    ∙ ap (λ (xs : List ℕ). slice_range haystack at place ++ xs) (drop-drop (place - at) at haystack ∙ ap (λ (n : ℕ). drop n haystack) other)

module _ (haystack : List ℕ) (piece : Occurrence → List ℕ) where
  -- more bytes, behind all runs
  pub copied-more : (at : ℕ) (front : List Occurrence) (place next : ℕ) → at ≤ place → EndBy front place → place ≤ next
      → copied_to haystack at front piece next ≡ copied_to haystack at front piece place ++ slice_range haystack place next
  copied-more at [] place next low ends le = part_join haystack at place next low le
  copied-more at (x ∷ front) place next low ends le =
      let gap = slice_range haystack at x.start in
      let rest = copied_to haystack x.end front piece place in
      let more = slice_range haystack place next in
      ap (λ (xs : List ℕ). gap ++ (piece x ++ xs)) (copied-more x.end front place next (ends x (inl refl)) (λ y there. ends y (inr there)) le)
      ∙ ap (λ (xs : List ℕ). gap ++ xs) (sym (append_assoc (piece x) rest more))
      ∙ sym (append_assoc gap (piece x ++ rest) more)

  -- a run more, and the bytes in front of it
  pub copied-run : (at : ℕ) (front : List Occurrence) (x : Occurrence) (place : ℕ) → at ≤ place → EndBy front place → place ≤ x.start
      → copied_to haystack at (front ++ x ∷ []) piece x.end ≡ copied_to haystack at front piece place ++ (slice_range haystack place x.start ++ piece x)
  copied-run at [] x place low ends le =
      let gap = slice_range haystack place x.start in
      ap (λ (xs : List ℕ). slice_range haystack at x.start ++ (piece x ++ xs)) (no_part haystack x.end)
      ∙ ap (λ (xs : List ℕ). slice_range haystack at x.start ++ xs) (append-nil (piece x))
      ∙ ap (λ (xs : List ℕ). xs ++ piece x) (part_join haystack at place x.start low le)
      ∙ append_assoc (slice_range haystack at place) gap (piece x)
  copied-run at (y ∷ front) x place low ends le =
      let gap = slice_range haystack at y.start in
      let rest = copied_to haystack y.end front piece place in
      let more = slice_range haystack place x.start ++ piece x in
      ap (λ (xs : List ℕ). gap ++ (piece y ++ xs)) (copied-run y.end front x place (ends y (inl refl)) (λ z there. ends z (inr there)) le)
      ∙ ap (λ (xs : List ℕ). gap ++ xs) (sym (append_assoc (piece y) rest more))
      ∙ sym (append_assoc gap (piece y ++ rest) more)

  -- the bytes up to the end of the last run come first
  pub copied-through : (at : ℕ) (front : List Occurrence) (place : ℕ) → StartsWith (copied_to haystack at front piece place) (covered_through haystack at front piece)
  copied-through at [] place = refl
  copied-through at (x ∷ front) place =
      let rest = copied_to haystack x.end front piece place in
      let through = covered_through haystack x.end front piece in
      begins_behind (slice_range haystack at x.start) (piece x ++ rest) (piece x ++ through) (begins_behind (piece x) rest through (copied-through x.end front place))

  -- with the piece of a run they end there
  pub through-run : (at : ℕ) (front : List Occurrence) (x : Occurrence) → covered_through haystack at (front ++ x ∷ []) piece ≡ copied_to haystack at (front ++ x ∷ []) piece x.end
  through-run at [] x = ap (λ (xs : List ℕ). slice_range haystack at x.start ++ (piece x ++ xs)) (sym (no_part haystack x.end))
  through-run at (y ∷ front) x = ap (λ (xs : List ℕ). slice_range haystack at y.start ++ (piece y ++ xs)) (through-run y.end front x)

  -- what is left of the whole
  pub copied-rest : (at : ℕ) (front rest : List Occurrence) (place : ℕ) → at ≤ place → EndBy front place → ((x : Occurrence) → IsMember rest x → place ≤ x.start)
      → replaced_from haystack at (front ++ rest) piece ≡ copied_to haystack at front piece place ++ replaced_from haystack place rest piece
  copied-rest at [] [] place low ends behind = part-rest haystack at place low
  copied-rest at [] (x ∷ rest) place low ends behind =
      let after = piece x ++ replaced_from haystack x.end rest piece in
      ap (λ (xs : List ℕ). xs ++ after) (part_join haystack at place x.start low (behind x (inl refl)))
      ∙ append_assoc (slice_range haystack at place) (slice_range haystack place x.start) after
  copied-rest at (y ∷ front) rest place low ends behind =
      let gap = slice_range haystack at y.start in
      let copied = copied_to haystack y.end front piece place in
      let after = replaced_from haystack place rest piece in
      ap (λ (xs : List ℕ). gap ++ (piece y ++ xs)) (copied-rest y.end front rest place (ends y (inl refl)) (λ z there. ends z (inr there)) behind)
      ∙ ap (λ (xs : List ℕ). gap ++ xs) (sym (append_assoc (piece y) copied after))
      ∙ sym (append_assoc gap (piece y ++ copied) after)

-- each has a byte at least, and begins at a place or behind it
abbrev pub LieBehind : List Occurrence → ℕ → Type 0
LieBehind runs place = (x : Occurrence) → IsMember runs x → (place ≤ x.start) × (x.start < x.end)

-- up to the place the runs before it make what was copied
pub covered-copied : (haystack : List ℕ) (piece : Occurrence → List ℕ) (at : ℕ) (front later : List Occurrence) (place : ℕ) → EndBy front place → LieBehind later place
    → covered_up_to haystack place at (front ++ later) piece ≡ copied_to haystack at front piece place
covered-copied haystack piece at [] [] place ends behind = refl
covered-copied haystack piece at [] (y ∷ later) place ends behind =
    cond-false (nat_le y.end place) (slice_range haystack at y.start ++ (piece y ++ covered_up_to haystack place y.end later piece)) (slice_range haystack at place) (lt-leb y.end place (omega (arith, behind y (inl refl))))
covered-copied haystack piece at (x ∷ front) later place ends behind =
    let gap = slice_range haystack at x.start in
    cond-true (nat_le x.end place) (gap ++ (piece x ++ covered_up_to haystack place x.end (front ++ later) piece)) (slice_range haystack at place) (le-leb x.end place (ends x (inl refl)))
    ∙ ap (λ (xs : List ℕ). gap ++ (piece x ++ xs)) (covered-copied haystack piece x.end front later place (λ y there. ends y (inr there)) behind)

-- a part of the last bytes is that part of the whole
pub part_held : (haystack bytes : List ℕ) (read start end : ℕ) → EndsWith (slice_range haystack 0 read) bytes → read ≤ length haystack → length bytes ≤ read → read ≤ start + length bytes → start ≤ end → end ≤ read
    → take ((end - (read - length bytes)) - (start - (read - length bytes))) (drop (start - (read - length bytes)) bytes) ≡ slice_range haystack start end
part_held haystack bytes read start end (gone, e) within short low ordered high =
    let all = slice_range haystack 0 read in
    let long : length gone ≡ read - length bytes = omega (arith, ap length e, length-append gone bytes, length_part haystack 0 read within) in
    let count : (end - (read - length bytes)) - (start - (read - length bytes)) ≡ end - start = omega arith in
    let place : length gone + (start - length gone) ≡ start = omega arith in
    ap (λ (n : ℕ). take n (drop (start - (read - length bytes)) bytes)) count
    ∙ ap (λ (n : ℕ). take (end - start) (drop (start - n) bytes)) (sym long)
    ∙ ap (λ (xs : List ℕ). take (end - start) (drop (start - length gone) xs)) (sym (drop_at gone bytes (length gone) refl) ∙ ap (drop (length gone)) (sym e))
    ∙ ap (take (end - start)) (drop-drop (start - length gone) (length gone) all ∙ ap (λ (n : ℕ). drop n all) place)
    ∙ part_of_part haystack 0 read start end start end (omega arith) (omega arith) ordered high

-- bytes end in what is left of their last ones
pub ends-drop : (given last : List ℕ) (n : ℕ) → EndsWith given last → EndsWith given (drop n last)
ends-drop given last n (gone, e) = (
  gone ++ take n last,
  e ∙ ap (λ (xs : List ℕ). gone ++ xs) (sym (take-append-drop n last)) ∙ sym (append_assoc gone (take n last) (drop n last)),
)

-- and where more is given, in these with what is more
pub ends-append : (given last more : List ℕ) → EndsWith given last → EndsWith (given ++ more) (last ++ more)
ends-append given last more (gone, e) = (gone, ap (λ (xs : List ℕ). xs ++ more) e ∙ append_assoc gone last more)

-- The cover of a text that is cut, from the covers of its parts.
use Rattle.std.proofs.Common.{◌≡◌, inl, inr, ℕ, ◌+◌, ◌-◌, ◌<◌, ◌≤◌, List, [], ◌∷◌, ◌++◌, length, map, refl, sym, ◌∙◌, ap, subst, arith, append_assoc, length-append}
use Rattle.std.specs.Prelude.{◌⊎◌, slice_index_or}
use Rattle.std.proofs.lemmas.Bool.{cases_lt}
use Rattle.aho_core.specs.declared.search.MatchKind.TheVariants.{LeftmostLongest}
use Rattle.aho_core.specs.Cover.{AreRuns, IsCover, IsCovered, IsLongestFrom}
use Rattle.aho_core.specs.Listing.{IsMember}
use Rattle.aho_core.specs.Occurrence.{Occurrence}
use Rattle.aho_core.specs.Order.{IsBefore}
use Rattle.aho_core.specs.Patterns.{Patterns}
use Rattle.aho_core.specs.Replacement.{replaced}
use Rattle.aho_laws.specs.CoverLaws.{AreCovered, StandApart, IsBare}
use Rattle.aho_laws.specs.CutLaws.{AreCutBehind, EndsIn, NoneHolds, Piece, joined, moved, placed, replaced_apart}
use Rattle.aho_laws.specs.SearchLaws.{EndsBefore}
use Rattle.aho_laws.proofs.CoverClean.{bare_byte}
use Rattle.aho_laws.proofs.CoverKept.{OccursHere, runs-cover}
use Rattle.aho_laws.proofs.CoverRuns.{Covers, runs-covering}
use Rattle.aho_laws.proofs.JoinedPieces.{FitPiece, placed-first, replaced-fitting, replaced-left}
use Rattle.aho_laws.proofs.Listed.{listed-append, listed-weaker, member-left, member-of_append, member-right}
use Rattle.aho_laws.proofs.Members.{listed-map, member-map, member-of_map}
use Rattle.aho_laws.proofs.SpanTexts.{Occurs-left, Occurs-of_left, Occurs-of_right, Occurs-right, moved-before, moved-moved_back, moved_back}

module _ (p : Patterns) (left right : List ℕ) (bare : IsBare p (left ++ right) (length left)) where
  abbrev whole : List ℕ
  whole = left ++ right

  -- not both bytes beside the cut are covered
  not_both : (at : ℕ) → at + 1 ≡ length left → IsCovered (OccursHere p whole) at → IsCovered (OccursHere p whole) (length left) → ⊥
  not_both at next c d = elim bare [ inl before ↦ before at next c | inr behind ↦ behind d ]

  -- so nothing lies across it
  across : (m : Occurrence) → OccursHere p whole m → (m.end ≤ length left) ⊎ (length left ≤ m.start)
  across m occurs =
      elim (cases_lt (length left) m.end) [
        | inr upto ↦ inl upto
        | inl past ↦
            elim (cases_lt m.start (length left)) [
              | inr behind ↦ inr behind
              | inl low ↦
                  absurd (not_both (length left - 1) (omega (arith, low)) (record { found = m; member = occurs; after_start = omega (arith, low); before_end = omega arith })
                  (record { found = m; member = occurs; after_start = omega arith; before_end = past }))
            ]
      ]

  covered_left : (at : ℕ) → IsCovered (OccursHere p left) at → IsCovered (OccursHere p whole) at
  covered_left at c = record { found = c.found; member = Occurs-of_left p left right c.found c.member; after_start = c.after_start; before_end = c.before_end }

  covered_right : (at : ℕ) → IsCovered (OccursHere p right) at → IsCovered (OccursHere p whole) (length left + at)
  covered_right at c = record { found = moved (length left) c.found; member = Occurs-of_right p left right c.found c.member; after_start = omega (arith, c.after_start); before_end = omega (arith, c.before_end) }

  module _ (xs ys : List Occurrence) (one : Covers (OccursHere p left) xs (length left)) (other : Covers (OccursHere p right) ys (length right)) where
    abbrev both : List Occurrence
    both = xs ++ map (moved (length left)) ys

    -- a run of both is one of the left part, or one of the right part moved on
    abbrev OfBoth : Occurrence → Type 0
    OfBoth x = IsMember xs x ⊎ ((y : Occurrence) × IsMember ys y × (x ≡ moved (length left) y))

    of_both : (x : Occurrence) → IsMember both x → OfBoth x
    of_both x there = elim (member-of_append xs (map (moved (length left)) ys) x there) [ inl h ↦ inl h | inr h ↦ inr (member-of_map (moved (length left)) ys x h) ]

    apart-across : (x y : Occurrence) → IsMember xs x → IsMember ys y → x.end < length left + y.start
    apart-across x y in_xs in_ys =
        elim (cases_lt x.end (length left + y.start)) [
          | inl apart ↦ apart
          | inr touches ↦
              (let within = one.ordered.within x in_xs in
              let place : length left + y.start ≡ length left = omega arith in
              let last : x.end ≡ length left = omega arith in
              let full = one.ordered.full x in_xs in
              let before = covered_left (x.end - 1) (one.only (x.end - 1) (record { found = x; member = in_xs; after_start = omega (arith, full); before_end = omega (arith, full) })) in
              let behind = covered_right y.start (other.only y.start (record { found = y; member = in_ys; after_start = omega arith; before_end = other.ordered.full y in_ys })) in
              absurd (not_both (x.end - 1) (omega (arith, full)) before (subst (IsCovered (OccursHere p whole)) place behind)))
        ]

    has-both : (at : ℕ) → IsCovered (OccursHere p whole) at → IsCovered (IsMember both) at
    has-both at c =
        elim (across c.found c.member) [
          | inl before ↦
              (let d = one.has at (record { found = c.found; member = Occurs-left p left right c.found before c.member; after_start = c.after_start; before_end = c.before_end }) in
              record { found = d.found; member = member-left xs (map (moved (length left)) ys) d.found d.member; after_start = d.after_start; before_end = d.before_end })
          | inr behind ↦
              (let low = c.after_start in
              let high = c.before_end in
              let d = other.has (at - length left) (record { found = moved_back (length left) c.found; member = Occurs-right p left right c.found behind c.member; after_start = omega arith; before_end = omega arith }) in
              record {
                found = moved (length left) d.found;
                member = member-right xs (map (moved (length left)) ys) (moved (length left) d.found) (member-map (moved (length left)) ys d.found d.member);
                after_start = omega (arith, d.after_start);
                before_end = omega (arith, d.before_end);
              })
        ]

    only-both : (at : ℕ) → IsCovered (IsMember both) at → IsCovered (OccursHere p whole) at
    only-both at c =
        elim (of_both c.found c.member) [
          | inl there ↦ covered_left at (one.only at (record { found = c.found; member = there; after_start = c.after_start; before_end = c.before_end }))
          | inr there ↦
              (let y = there.0 in
              let low : length left + y.start ≤ at = omega (arith, ap (λ (o : Occurrence). o.start) there.2, c.after_start) in
              let high : at < length left + y.end = omega (arith, ap (λ (o : Occurrence). o.end) there.2, c.before_end) in
              let place : length left + (at - length left) ≡ at = omega arith in
              subst (IsCovered (OccursHere p whole)) place
              (covered_right (at - length left) (other.only (at - length left) (record { found = y; member = there.1; after_start = omega arith; before_end = omega arith }))))
        ]

    longest-left : (at : ℕ) (m : Occurrence) → at < length left → IsLongestFrom (OccursHere p left) at m → IsLongestFrom (OccursHere p whole) at m
    longest-left at m low best = (
      (Occurs-of_left p left right m best.0.0, best.0.1),
      λ o h. elim (across o h.0) [
        | inl before ↦ best.1 o (Occurs-left p left right o before h.0, h.1)
        | inr behind ↦ absurd (omega (arith, h.1))
      ],
    )

    longest-right : (at : ℕ) (m : Occurrence) → IsLongestFrom (OccursHere p right) at m → IsLongestFrom (OccursHere p whole) (length left + at) (moved (length left) m)
    longest-right at m best = (
      (Occurs-of_right p left right m best.0.0, omega (arith, best.0.1)),
      λ o h.
          let behind : length left ≤ o.start = omega (arith, h.1) in
          let again = moved-moved_back (length left) o behind (omega (arith, h.0.sized)) in
          elim (best.1 (moved_back (length left) o) (Occurs-right p left right o behind h.0, omega (arith, h.1))) [
            | inl same ↦ inl (sym again ∙ ap (moved (length left)) same)
            | inr before ↦ inr (subst (IsBefore LeftmostLongest (moved (length left) m)) again (moved-before LeftmostLongest (length left) m (moved_back (length left) o) before))
          ],
    )

    covers-both : Covers (OccursHere p whole) both (length whole)
    covers-both = record {
      ordered = record {
        in_order =
            listed-append StandApart xs (map (moved (length left)) ys) one.ordered.in_order
            (listed-map StandApart (moved (length left)) ys (listed-weaker StandApart (λ (x y : Occurrence). StandApart (moved (length left) x) (moved (length left) y)) ys (λ x y in_x in_y apart. omega (arith, apart)) other.ordered.in_order))
            (λ x z in_xs in_map.
            let found = member-of_map (moved (length left)) ys z in_map in
            omega (arith, apart-across x found.0 in_xs found.1, ap (λ (o : Occurrence). o.start) found.2));
        full = λ x there. elim (of_both x there) [
          | inl h ↦ one.ordered.full x h
          | inr h ↦ omega (arith, other.ordered.full h.0 h.1, ap (λ (o : Occurrence). o.start) h.2, ap (λ (o : Occurrence). o.end) h.2)
        ];
        within = λ x there. elim (of_both x there) [
          | inl h ↦ omega (arith, one.ordered.within x h, length-append left right)
          | inr h ↦ omega (arith, other.ordered.within h.0 h.1, ap (λ (o : Occurrence). o.end) h.2, length-append left right)
        ];
      };
      only = only-both;
      has = has-both;
      named = λ x there. elim (of_both x there) [
        | inl h ↦
            (let longest = one.named x h in
            (longest.0, longest-left x.start longest.0 (omega (arith, one.ordered.full x h, one.ordered.within x h)) longest.1, longest.2))
        | inr h ↦
            (let longest = other.named h.0 h.1 in (
              moved (length left) longest.0,
              subst (λ (at : ℕ). IsLongestFrom (OccursHere p whole) at (moved (length left) longest.0)) (sym (ap (λ (o : Occurrence). o.start) h.2)) (longest-right h.0.start longest.0 longest.1),
              ap (λ (o : Occurrence). o.pattern) h.2 ∙ longest.2,
            ))
      ];
    }

  -- the runs of both parts are those of the whole
  pub runs-joined : (xs ys : List Occurrence) → AreRuns p left xs → AreRuns p right ys → AreRuns p (left ++ right) (xs ++ map (moved (length left)) ys)
  runs-joined xs ys h k = runs-covering (OccursHere p whole) (xs ++ map (moved (length left)) ys) (length whole) (covers-both xs ys (runs-cover p left xs h) (runs-cover p right ys k))

-- the runs of a text lie in it
pub runs-fit : (p : Patterns) (piece : Piece) → AreRuns p piece.bytes piece.found → FitPiece piece
runs-fit p piece h =
    let covers = runs-cover p piece.bytes piece.found h in
    record {
      apart = listed-weaker StandApart EndsBefore piece.found (λ x y in_x in_y apart. omega (arith, apart)) covers.ordered.in_order;
      ordered = λ m there. omega (arith, covers.ordered.full m there);
      within = covers.ordered.within;
    }

pub covers-joined_texts : (p : Patterns) (left right : List ℕ) (pieces : List (List ℕ)) (one other : List ℕ) → IsBare p (left ++ right) (length left) → IsCover p left pieces one → IsCover p right pieces other → IsCover p (left ++ right) pieces (one ++ other)
covers-joined_texts p left right pieces one other bare h k =
    let fit = runs-fit p (record { bytes = left; found = h.0 }) h.1 in (
      h.0 ++ map (moved (length left)) k.0,
      runs-joined p left right bare h.0 k.0 h.1 k.1,
      ap (λ (bytes : List ℕ). bytes ++ other) h.2 ∙ ap (λ (bytes : List ℕ). replaced left h.0 pieces ++ bytes) k.2
          ∙ sym (replaced-left left right (λ (m : Occurrence). slice_index_or pieces m.pattern []) (λ m. refl) h.0 k.0 0 (omega arith) fit.apart
          (λ m there. (omega arith, fit.ordered m there, fit.within m there))),
    )

module _ (p : Patterns) where
  -- a place behind a byte that no pattern holds
  bare_behind : (byte : ℕ) (left right : List ℕ) → NoneHolds p byte → EndsIn byte left → IsBare p (left ++ right) (length left)
  bare_behind byte left right none ends =
      let whole : left ++ right ≡ ends.0 ++ byte ∷ right = ap (λ (text : List ℕ). text ++ right) ends.1 ∙ append_assoc ends.0 (byte ∷ []) right in
      let long : length left ≡ length ends.0 + 1 = omega (arith, ap length ends.1, length-append ends.0 (byte ∷ [])) in
      inl (λ at next c.
      let place : at ≡ length ends.0 = omega arith in
      bare_byte p byte ends.0 right none (subst (IsCovered (OccursHere p (ends.0 ++ byte ∷ right))) place (subst (λ (text : List ℕ). IsCovered (OccursHere p text) at) whole c)))

  bare_last : (left right : List ℕ) → right ≡ [] → IsBare p (left ++ right) (length left)
  bare_last left right none = inr (λ c. omega (arith, c.before_end, c.member.before_end, length-append left right, ap length none))

  none-empty : AreRuns p [] []
  none-empty = record {
    in_order = tt;
    members = λ run. ((λ there. absurd there), (λ is_run. let c = is_run.stretch.covered run.start (omega arith) is_run.stretch.some in absurd (omega (arith, c.before_end, c.member.before_end))));
  }

  -- the runs of lines
  pub runs-pieces : (pieces : List Piece) (byte : ℕ) → NoneHolds p byte → AreCutBehind byte pieces → AreCovered p pieces → AreRuns p (joined pieces) (placed 0 pieces)
  runs-pieces [] byte none cut each = none-empty
  runs-pieces (piece ∷ pieces) byte none cut each =
      let bare : IsBare p (piece.bytes ++ joined pieces) (length piece.bytes) =
      elim cut.0 [ inl last ↦ bare_last piece.bytes (joined pieces) (ap joined last) | inr ends ↦ bare_behind byte piece.bytes (joined pieces) none ends ] in
      subst (AreRuns p (piece.bytes ++ joined pieces)) (placed-first piece pieces)
      (runs-joined p piece.bytes (joined pieces) bare piece.found (placed 0 pieces) (each piece (inl refl)) (runs-pieces pieces byte none cut.1 (λ other later. each other (inr later))))

  pub cover-pieces : (pieces : List Piece) (byte : ℕ) (replacements : List (List ℕ)) → NoneHolds p byte → AreCutBehind byte pieces → AreCovered p pieces → IsCover p (joined pieces) replacements (replaced_apart pieces replacements)
  cover-pieces pieces byte replacements none cut each = (placed 0 pieces, runs-pieces pieces byte none cut each, sym (replaced-fitting pieces replacements (λ piece there. runs-fit p piece (each piece there))))

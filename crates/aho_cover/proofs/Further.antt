-- One byte more of a walk over a stream's bytes, and what its states tell.
use Rattle.std.proofs.Common.{◌≡◌, ℕ, ◌+◌, ◌-◌, ◌<◌, ◌≤◌, inl, inr, true, false, List, [], ◌∷◌, ◌++◌, length, drop, get_or, refl, sym, ◌∙◌, ap, subst, arith}
use Rattle.std.proofs.lemmas.Bool.{cases_lt}
use Rattle.std.proofs.lemmas.List.{get_or-drop, get_or-take}
use Rattle.std.proofs.lemmas.List.Elements.{All-weaker}
use Rattle.std.specs.Prelude.{Option, None, Some, is_some, slice_index, slice_range}
use Rattle.aho_core.specs.Laws.{Fits, Reads, told}
use Rattle.aho_core.specs.Occurrence.{Occurrence}
use Rattle.aho_core.specs.Occurs.{Occurs}
use Rattle.aho_core.specs.Patterns.{Patterns}
use Rattle.aho_core.specs.Steps.{GoesOn}
use Rattle.aho_core.specs.declared.search.Anchored.TheVariants.{No}
use Rattle.aho_automaton.specs.declared.automaton.Automaton.{Ghosts as Automata}
use Rattle.aho_automaton.proofs.Places.{into_part, length_part, moved_back, part_join, part_more}
use Rattle.aho_cover.specs.Walks.{NoneReaches, StandsIn, walked_before}

-- a byte of a part
pub byte-ahead : (haystack bytes : List ℕ) (at n : ℕ) → bytes ≡ slice_range haystack at (at + length bytes) → n < length bytes → get_or bytes n 0 ≡ get_or haystack (at + n) 0
byte-ahead haystack bytes at n are within =
    let long : n < (at + length bytes) - at = omega (arith, within) in
    ap (λ (xs : List ℕ). get_or xs n 0) are ∙ get_or-take ((at + length bytes) - at) (drop at haystack) n 0 long ∙ get_or-drop at haystack n 0

-- a pattern that is no longer than one number is no longer than a greater one
pub fits-later : (lengths list : List ℕ) (n n' : ℕ) → n ≤ n' → Fits lengths n list → Fits lengths n' list
fits-later lengths list n n' le fits =
    All-weaker (λ (k : ℕ). (k < length lengths) × (slice_index lengths k ≤ n)) (λ (k : ℕ). (k < length lengths) × (slice_index lengths k ≤ n')) (λ k h. (h.0, omega (arith, h.1, le))) list fits

module _ {A : Type 0} (G : Automata A) (a : A) (p : Patterns) (haystack : List ℕ) where
  -- one byte more
  pub stands-further : (at sid byte next : ℕ) → at < length haystack → byte ≡ get_or haystack at 0 → GoesOn (G.held a p No) sid byte next → StandsIn G a p haystack sid at → StandsIn G a p haystack next (at + 1)
  stands-further at sid byte next within is goes s =
      let longer : slice_range haystack s.origin (at + 1) ≡ slice_range haystack s.origin at ++ byte ∷ [] = part_more haystack s.origin at s.before_place within ∙ ap (λ (x : ℕ). slice_range haystack s.origin at ++ x ∷ []) (sym is) in
      record {
        origin = s.origin;
        after_start = s.after_start;
        before_place = omega (arith, s.before_place);
        in_span = omega (arith, within);
        from_start = s.from_start;
        apart = s.apart;
        is_state = tt;
        is_held = subst (λ (w : List ℕ). G.held a p No w next) (sym longer) (goes (slice_range haystack s.origin at) s.is_held);
      }

  module _ (laws : Reads p (G.kind a) (G.lengths a) (G.held a p) (G.list a) (G.dead a) (G.starts a)) where
    -- what a state lists is no longer than all that was read
    pub stands-fits : (at sid : ℕ) → StandsIn G a p haystack sid at → Fits (G.lengths a) at (G.list a sid)
    stands-fits at sid s = fits-later (G.lengths a) (G.list a sid) (length (slice_range haystack s.origin at)) at (omega (arith, length_part haystack s.origin at s.in_span)) (laws.listed No (slice_range haystack s.origin at) sid s.is_held)

    -- where a start is held, what ends later begins there or behind it
    pub clear-start : (at sid : ℕ) → StandsIn G a p haystack sid at → G.starts a sid ≡ true → NoneReaches p haystack at at
    clear-start at sid s start m occurs ends = elim (cases_lt m.start s.origin) [
      | inl early ↦ absurd (omega (arith, s.apart m occurs early, s.before_place, ends))
      | inr late ↦
          (let end = length haystack in
          let word = slice_range haystack s.origin at in
          let rest = slice_range haystack at end in
          let here : Occurs p No haystack s.origin end m = record { numbered = occurs.numbered; after_start = late; before_end = occurs.before_end; sized = occurs.sized; same = occurs.same; admitted = λ e. cc } in
          let long : length (slice_range haystack s.origin end) ≡ end - s.origin = length_part haystack s.origin end (omega arith) in
          let there = subst (λ (x : ℕ). Occurs p No (slice_range haystack s.origin end) 0 x (moved_back s.origin m)) (sym long) (into_part p No haystack s.origin end m here) in
          let joined = subst (λ (w : List ℕ). Occurs p No w 0 (length w) (moved_back s.origin m)) (part_join haystack s.origin at end s.before_place s.in_span) there in
          let size : length word ≡ at - s.origin = length_part haystack s.origin at s.in_span in
          omega (arith, laws.start_apart word rest sid (moved_back s.origin m) s.is_held start joined (omega (arith, size, late, ends, s.before_place)), size, late, s.before_place))
    ]

-- a state that tells nothing lists nothing
pub told-nothing : (lengths list : List ℕ) (at : ℕ) → told lengths No 0 at list ≡ None → list ≡ []
told-nothing lengths [] at none = refl
told-nothing lengths (k ∷ ks) at none = cc

pub not-some : (found : Option Occurrence) → is_some found ≡ false → found ≡ None
not-some None e = refl
not-some (Some m) e = cc

pub one-told : (found : Option Occurrence) (count : ℕ) → is_some found ≡ true → walked_before found count ≡ count - 1
one-told None count e = cc
one-told (Some m) count e = refl

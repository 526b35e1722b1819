-- What is found, and what the state fits then.
use Rattle.std.proofs.Common.{◌≡◌, ◌+◌, ℕ, min, List, length, refl, sym, arith, rules, ◌∙◌, ap, subst}
use Rattle.std.specs.Prelude.{◌↔◌, Option, Some, None, slice_get}
use Rattle.std.proofs.lemmas.Option.{slice_get_past}
use Rattle.aho_core.specs.declared.search.Anchored.{Anchored}
use Rattle.aho_core.specs.declared.search.MatchKind.TheVariants.{Standard}
use Rattle.aho_core.specs.Overlapping.{overlapping}
use Rattle.aho_core.specs.Patterns.{Patterns}
use Rattle.aho_core.specs.Progress.{FitsFrom, FitsSearch, Progress}
use Rattle.aho_core.specs.Search.{Search}
use Rattle.aho_automaton.proofs.Gives.{from_fits, part_way_at_start, to_fits}
use Rattle.aho_automaton.proofs.automaton.Automaton.try_find_overlapping.Given.{Over}
use Rattle.aho_automaton.proofs.automaton.Automaton.try_find_overlapping.Goals.{Joined-state, in-None-default+in_ok-sid-in-None-default, in-Some-Some, in-Some-None}
use Rattle.aho_automaton.proofs.automaton.Automaton.try_find_overlapping.Goals as goal

-- a state with these parts fits what they fit, and the other way round
by_parts : (valid : ℕ → Type 0) (held : Anchored → List ℕ → ℕ → Type 0) (p : Patterns) (search : Search) (old : Progress) (id : Option ℕ) (at : ℕ) (index : Option ℕ) (n : ℕ)
    → old.id ≡ id → old.at ≡ at → old.next_match_index ≡ index → FitsFrom valid held p search old.id old.at old.next_match_index n ↔ FitsFrom valid held p search id at index n
by_parts valid held p search old id at index n ids ats indexes = (
  (λ fits.
      subst (λ (i : Option ℕ). FitsFrom valid held p search id at i n) indexes
      (subst (λ (i : ℕ). FitsFrom valid held p search id i old.next_match_index n) ats
      (subst (λ (i : Option ℕ). FitsFrom valid held p search i old.at old.next_match_index n) ids fits))),
  (λ fits.
      subst (λ (i : Option ℕ). FitsFrom valid held p search i old.at old.next_match_index n) (sym ids)
      (subst (λ (i : ℕ). FitsFrom valid held p search id i old.next_match_index n) (sym ats)
      (subst (λ (i : Option ℕ). FitsFrom valid held p search id at i n) (sym indexes) fits))),
)

pub next_match-requires-clause-part_way : goal.next_match-requires-clause-part_way
next_match-requires-clause-part_way g c =
    let standard : g.Self.Automaton.kind c.args.self.now ≡ Standard = search rules in
    let of = c.requires.fits.2 in (
      c.requires.fits.0,
      0,
      of,
      part_way_at_start (g.met.Self.Automaton.laws c.args.self.now _ of) standard _ c.args.input.now (omega (arith, c.end.ensures.within)) _ _ _ c.start-in-None-default.ensures.start c.get_anchored.ensures.anchored (omega arith) c.in_ok-sid-in-None-default.ensures.valid (c.in_ok-sid-in-None-default.ensures.begins _ of),
    )

-- what the old state fits
fits_old : (g : Over) (c : Joined-state g) (p : Patterns) (n : ℕ) (id : Option ℕ) (index : Option ℕ) → g.Self.Automaton.is_of c.args.self.now p
    → FitsSearch (g.Self.Automaton.valid c.args.self.now) (g.Self.Automaton.held c.args.self.now p) p c.args.input.now c.args.state.now n
    → c.state.inside.id ≡ id → c.state.inside.next_match_index ≡ index
    → FitsFrom (g.Self.Automaton.valid c.args.self.now) (g.Self.Automaton.held c.args.self.now p) p c.args.input.now id c.state.inside.at index n
fits_old g c p n id index of fits ids indexes =
    let standard : g.Self.Automaton.kind c.args.self.now ≡ Standard = search rules in
    let id_was : c.args.state.now.id ≡ c.state.inside.id = sym (ap (λ (s : Progress). s.id) c.state.view_is) in
    let at_was : c.args.state.now.at ≡ c.state.inside.at = sym (ap (λ (s : Progress). s.at) c.state.view_is) in
    let index_was : c.args.state.now.next_match_index ≡ c.state.inside.next_match_index = sym (ap (λ (s : Progress). s.next_match_index) c.state.view_is) in
    (by_parts _ _ p c.args.input.now c.args.state.now id c.state.inside.at index n (id_was ∙ ids) at_was (index_was ∙ indexes)).0
    (from_fits (g.met.Self.Automaton.laws c.args.self.now p of) standard _ c.args.input.now (omega (arith, c.end.ensures.within)) c.args.state.now n fits)

-- what a state fits that is this one
fits_new : (g : Over) (c : Joined-state g) (p : Patterns) (new : Progress) (n : ℕ) → g.Self.Automaton.is_of c.args.self.now p
    → c.match-state.state ≡ new
    → FitsFrom (g.Self.Automaton.valid c.args.self.now) (g.Self.Automaton.held c.args.self.now p) p c.args.input.now new.id new.at new.next_match_index n
    → FitsSearch (g.Self.Automaton.valid c.args.self.now) (g.Self.Automaton.held c.args.self.now p) p c.args.input.now c.match-state.state n
fits_new g c p new n of same fits =
    let standard : g.Self.Automaton.kind c.args.self.now ≡ Standard = search rules in
    to_fits (g.met.Self.Automaton.laws c.args.self.now p of) standard _ c.args.input.now (omega (arith, c.end.ensures.within)) c.match-state.state n
    ((by_parts _ _ p c.args.input.now c.match-state.state new.id new.at new.next_match_index n (ap (λ (s : Progress). s.id) same) (ap (λ (s : Progress). s.at) same) (ap (λ (s : Progress). s.next_match_index) same)).1 fits)

pub returns-clause-found : goal.returns-clause-found
returns-clause-found g c p n of fits =
    let standard : g.Self.Automaton.kind c.args.self.now ≡ Standard = search rules in
    let all = overlapping p c.args.input.now in
    elim c.match-state.branch [
      | in-None-default+in_ok-sid-in-None-default w ↦
          let none = fits_old g c p n None c.state.inside.next_match_index of fits w.in-None-default.is-0 refl in
          ap (λ (s : Progress). s.mat) (w.state-is ∙ w.state-in-None-default.view_is)
          ∙ w.next_match.ensures.found p 0 of (part_way_at_start (g.met.Self.Automaton.laws c.args.self.now p of) standard _ c.args.input.now (omega (arith, c.end.ensures.within)) _ _ _ w.start-in-None-default.ensures.start w.get_anchored.ensures.anchored (omega arith) w.in_ok-sid-in-None-default.ensures.valid (w.in_ok-sid-in-None-default.ensures.begins p of))
          ∙ ap (slice_get all) (sym none)
      | in-Some-Some w ↦
          ap (λ (s : Progress). s.mat) (w.state-is ∙ w.state-in-Some-Some.view_is)
          ∙ w.next_match-in-Some-Some.ensures.found p n of (fits_old g c p n (Some _) (Some _) of fits w.in-Some-Some.is-0 w.in-Some-Some.is-1)
      | in-Some-None w ↦
          let spent : n ≡ length all = fits_old g c p n (Some _) None of fits w.in-Some-None.is-0 w.in-Some-None.is-1 in
          ap (λ (s : Progress). s.mat) w.state-is ∙ sym (slice_get_past all n (omega arith))
    ]

pub returns-clause-fits : goal.returns-clause-fits
returns-clause-fits g c p n of fits =
    let standard : g.Self.Automaton.kind c.args.self.now ≡ Standard = search rules in
    let all = overlapping p c.args.input.now in
    elim c.match-state.branch [
      | in-None-default+in_ok-sid-in-None-default w ↦
          let none : n ≡ 0 = fits_old g c p n None c.state.inside.next_match_index of fits w.in-None-default.is-0 refl in
          fits_new g c p w.next_match.result (min (n + 1) (length all)) of (w.state-is ∙ w.state-in-None-default.view_is)
          (subst (λ (k : ℕ). FitsFrom (g.Self.Automaton.valid c.args.self.now) (g.Self.Automaton.held c.args.self.now p) p c.args.input.now w.next_match.result.id w.next_match.result.at w.next_match.result.next_match_index (min (k + 1) (length all))) (sym none)
          (w.next_match.ensures.fits p 0 of (part_way_at_start (g.met.Self.Automaton.laws c.args.self.now p of) standard _ c.args.input.now (omega (arith, c.end.ensures.within)) _ _ _ w.start-in-None-default.ensures.start w.get_anchored.ensures.anchored (omega arith) w.in_ok-sid-in-None-default.ensures.valid (w.in_ok-sid-in-None-default.ensures.begins p of))))
      | in-Some-Some w ↦
          fits_new g c p w.next_match-in-Some-Some.result (min (n + 1) (length all)) of (w.state-is ∙ w.state-in-Some-Some.view_is)
          (w.next_match-in-Some-Some.ensures.fits p n of (fits_old g c p n (Some _) (Some _) of fits w.in-Some-Some.is-0 w.in-Some-Some.is-1))
      | in-Some-None w ↦
          let spent : n ≡ length all = fits_old g c p n (Some _) None of fits w.in-Some-None.is-0 w.in-Some-None.is-1 in
          let still : min (n + 1) (length all) ≡ n = omega arith in
          fits_new g c p _ (min (n + 1) (length all)) of w.state-is
          (subst (λ (k : ℕ). FitsFrom (g.Self.Automaton.valid c.args.self.now) (g.Self.Automaton.held c.args.self.now p) p c.args.input.now c.state.inside.id c.state.inside.at c.state.inside.next_match_index k) (sym still) (fits_old g c p n c.state.inside.id c.state.inside.next_match_index of fits refl refl))
    ]

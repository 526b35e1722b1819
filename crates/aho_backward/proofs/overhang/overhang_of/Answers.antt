-- The first place where something ends in a pattern.
use Rattle.std.proofs.Common.{◌≡◌, ◌-◌, ℕ, List, Option, true, false, sym, ◌∙◌, ap, length, subst, arith}
use Rattle.std.specs.Prelude.{IfOk, Ok, Result}
use Rattle.aho_core.specs.declared.error.MatchErrorKind.{MatchErrorKind}
use Rattle.aho_core.specs.declared.search.Anchored.TheVariants.{No}
use Rattle.aho_core.specs.Answer.{IsAnswer}
use Rattle.aho_core.specs.Occurrence.{Occurrence}
use Rattle.aho_core.specs.Patterns.{Patterns}
use Rattle.aho_core.specs.Search.{Search}
use Rattle.aho_backward.specs.Overhang.{HasBehind}
use Rattle.aho_backward.proofs.Overhangs.{earliest_in, first-behind, first-most, never-none}
use Rattle.aho_backward.proofs.overhang.overhang_of.Goals as goal

-- what was answered, of the input that was asked
answered : (p : Patterns) (word : List ℕ) (made asked : Search) (result : Result (Option Occurrence) MatchErrorKind) (got answer : Option Occurrence)
    → made ≡ record { haystack = word; start = 0; end = length word; anchored = No; earliest = false } → asked ≡ record made { earliest = true }
    → result ≡ Ok got → got ≡ answer → IfOk result (IsAnswer p asked) → IsAnswer p (earliest_in word) answer
answered p word made asked result got answer whole changed is was found =
    let same : asked ≡ earliest_in word = changed ∙ ap (λ (s : Search). record s { earliest = true }) whole in
    subst (IsAnswer p (earliest_in word)) was (subst (λ (s : Search). IsAnswer p s got) same (subst (λ (r : Result (Option Occurrence) MatchErrorKind). IfOk r (IsAnswer p asked)) is found))

pub overflow_sub-result : goal.overflow_sub-result
overflow_sub-result g c =
    let p = c.requires.of.0 in
    let found = answered p c.args.pattern.now _ _ _ _ _ c.new.ensures.whole c.earliest-input.ensures.changed c.unwrap.ensures c.in-Some.is (c.try_find.ensures.found p c.requires.of.1) in
    omega (arith, found.2.0.before_end, found.1.within, c.end.ensures.end)

pub returns-in-Some : goal.returns-in-Some
returns-in-Some g c =
    let word = c.args.pattern.now in
    let m = c.in-Some.m in
    let end : length word - m.end ≡ length word - c.end.result = ap (λ (k : ℕ). length word - k) (sym c.end.ensures.end) in
    let found = λ (p : Patterns) (of : g.A.Automaton.is_of c.args.automaton.now p). answered p word _ _ _ _ _ c.new.ensures.whole c.earliest-input.ensures.changed c.unwrap.ensures c.in-Some.is (c.try_find.ensures.found p of) in
    record {
      some = λ p number of within same. subst (HasBehind p number) end (first-behind p number word same m (found p of));
      most = λ p number count of within same has. let most = first-most p number word same m count (found p of) has in omega (arith, most, end);
    }

pub returns-clause-some : goal.returns-clause-some
returns-clause-some g c p number of within same =
    absurd (never-none p number c.args.pattern.now same within (answered p c.args.pattern.now _ _ _ _ _ c.new.ensures.whole c.earliest-input.ensures.changed c.unwrap.ensures c.in-None.is (c.try_find.ensures.found p of)))

pub returns-clause-most : goal.returns-clause-most
returns-clause-most g c p number count of within same has =
    absurd (never-none p number c.args.pattern.now same within (answered p c.args.pattern.now _ _ _ _ _ c.new.ensures.whole c.earliest-input.ensures.changed c.unwrap.ensures c.in-None.is (c.try_find.ensures.found p of)))

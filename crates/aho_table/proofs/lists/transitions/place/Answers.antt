-- In a list of all bytes whose entries lie side by side each byte has its own place.
use Rattle.std.proofs.Common.{◌≡◌, ℕ, ◌+◌, ◌<◌, sym, ap, subst, ◌∙◌, arith}
use Rattle.aho_table.specs.Rings.{IsPassed}
use Rattle.aho_table.specs.ListsInside.{transition_of, transition_entries}
use Rattle.aho_table.specs.declared.lists.transitions.Transition.{Transition}
use Rattle.aho_table.proofs.SideBySide.{run-passed, key-full}
use Rattle.aho_table.proofs.lists.transitions.place.Goals as goal

pub returns-then-first-as_usize-clause-found : goal.returns-then-first-as_usize-clause-found
returns-then-first-as_usize-clause-found c =
    let joined = c.requires.rings.joined c.args.last c.requires.some c.requires.within c.requires.ends in
    let below : c.args.last < c.args.beside = omega (arith, c.as_usize.ensures.value, c.if-as_usize-beside.true) in
    let link : (transition_of c.args.entries.now c.args.last).link ≡ c.as_usize-first.result = sym (c.as_usize-first.ensures.value ∙ ap (λ (t : Transition). t.link) c.entry-end.ensures.entry) in
    let full : (transition_of c.args.entries.now c.args.last).link + 255 ≡ c.args.last = omega (arith, link, c.if-first-as_usize.true, c.as_usize-then-as_usize-beside.ensures.value) in
    let place : (transition_of c.args.entries.now c.args.last).link + c.args.byte ≡ c.new_unchecked.result = omega (arith, link, c.new_unchecked.ensures.value) in
    record {
      passed = subst (λ (n : ℕ). IsPassed (transition_entries c.args.entries.now) c.args.last n (transition_of c.args.entries.now c.args.last).link) place
          (run-passed c.requires.side_by_side below c.args.byte (transition_of c.args.entries.now c.args.last).link joined.1 (omega arith));
      of_byte = ap (transition_entries c.args.entries.now).key (sym place)
          ∙ key-full c.requires.side_by_side below joined.1 full (omega (arith, ap (λ (t : Transition). t.byte) c.entry-end.ensures.entry)) c.args.byte (omega arith);
    }

-- The list of a number that is not 0 has a pattern.
use Rattle.std.proofs.Common.{◌≡◌, ℕ, List, length, nat_lt, sym, ap, ◌∙◌, arith}
use Rattle.std.proofs.lemmas.Bool.Decides.{nat_tests}
use Rattle.std.proofs.lemmas.List.{nil_from_length}
use Rattle.aho_table.specs.Lists.{list_at}
use Rattle.aho_table.specs.Table.{State, matches_in}
use Rattle.aho_table.proofs.Records.{read_in, read_is, matches_known}
use Rattle.aho_table.proofs.links.states.States.has_matches.Goals as goal

both_some : (number : ℕ) (count : ℕ) → (number ≡ 0 → count ≡ 0) → (count ≡ 0 → number ≡ 0) → nat_lt 0 number ≡ nat_lt 0 count
both_some number count none none' = grind (arith, nat_tests)

pub record_of-requires : goal.record_of-requires
record_of-requires c = record { added = read_in c.self.inside.records.items c.self.inside.transitions c.self.inside.matches c.self.inside.limit c.args.sid c.args.self.now c.self.view_is c.requires.added c.deref.result.now c.deref.ensures.value }

pub returns : goal.returns
returns c =
    let listed = ap (λ (s : State). s.matches) (read_is c.self.inside.records.items c.self.inside.transitions c.self.inside.matches c.self.inside.limit c.args.sid c.args.self.now c.self.view_is c.requires.added c.deref.result.now c.deref.ensures.value c.record_of.result c.record_of.ensures.found) in
    let known = matches_known c.self.inside.records.items c.self.inside.transitions c.self.inside.matches c.self.inside.limit c.args.sid c.args.self.now c.self.view_is c.requires.added
    c.deref.result.now c.deref.ensures.value c.record_of.result c.record_of.ensures.found c.self.invariant.match_lists in
    record {
      some = both_some c.record_of.result.matches (length (matches_in c.args.self.now.states c.args.sid))
          (λ zero. ap (λ (xs : List ℕ). length xs) (listed ∙ ap (list_at c.self.inside.matches.lists) zero ∙ c.facts.ensures.empty))
          (λ none. known (sym listed ∙ nil_from_length (matches_in c.args.self.now.states c.args.sid) none));
    }

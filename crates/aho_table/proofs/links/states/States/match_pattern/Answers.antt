-- The store's item of this place is the state's.
use Rattle.std.proofs.Common.{◌∙◌, ap, length, arith}
use Rattle.std.specs.List.{slice_get}
use Rattle.aho_table.specs.Table.{State}
use Rattle.aho_table.proofs.Records.{read_in, read_is, matches_known}
use Rattle.aho_table.proofs.links.states.States.match_pattern.Goals as goal

pub record_of-list-requires : goal.record_of-list-requires
record_of-list-requires c = record { added = read_in c.self.inside.records.items c.self.inside.transitions c.self.inside.matches c.self.inside.limit c.args.sid c.args.self.now c.self.view_is c.requires.added c.deref.result.now c.deref.ensures.value }

pub get-requires : goal.get-requires
get-requires c = record {
  known = matches_known c.self.inside.records.items c.self.inside.transitions c.self.inside.matches c.self.inside.limit c.args.sid c.args.self.now c.self.view_is c.requires.added
      c.deref.result.now c.deref.ensures.value c.record_of-list.result c.record_of-list.ensures.found c.self.invariant.match_lists;
  within = omega (
    arith,
    c.requires.within,
    ap (λ (s : State). length s.matches) (read_is c.self.inside.records.items c.self.inside.transitions c.self.inside.matches c.self.inside.limit c.args.sid c.args.self.now c.self.view_is c.requires.added
        c.deref.result.now c.deref.ensures.value c.record_of-list.result c.record_of-list.ensures.found),
  );
}

pub returns : goal.returns
returns c =
    let read = ap (λ (s : State). slice_get s.matches c.args.index) (read_is c.self.inside.records.items c.self.inside.transitions c.self.inside.matches c.self.inside.limit c.args.sid c.args.self.now c.self.view_is c.requires.added
    c.deref.result.now c.deref.ensures.value c.record_of-list.result c.record_of-list.ensures.found) ∙ c.get.ensures.listed in
    record { listed = read }

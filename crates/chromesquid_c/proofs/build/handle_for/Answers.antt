-- The handle leads to what was built.
use Rattle.chromesquid_c.proofs.build.handle_for.Goals as goal

pub returns-clause-built : goal.returns-clause-built
returns-clause-built c =
    let same = c.in-Ok.ensures.ok in
    record {
      searcher = c.in-Ok.one.value;
      holds = c.in-Ok-of.ensures.holds;
      of = rw same c.in_ok-searcher.ensures.of;
      match_kind = rw same c.in_ok-searcher.ensures.match_kind;
      start_kind = rw same c.in_ok-searcher.ensures.start_kind;
      kind = rw same c.in_ok-searcher.ensures.kind;
      count = rw same c.in_ok-searcher.ensures.count;
      lengths = rw same c.in_ok-searcher.ensures.lengths;
    }

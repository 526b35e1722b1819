use Rattle.std.proofs.lemmas.Result.{IfOk-at_ok}
use Rattle.library_tests.proofs.stream.stream_finds.skips_by.Goals as goal

pub told_at_once-requires-3 : goal.told_at_once-requires-3
told_at_once-requires-3 g c = record {
  of = (c.requires.of.0, IfOk-at_ok _ c.expect-hybrid.ensures c.with_prefilter.ensures.of c.requires.of.0 c.requires.of.1 c.requires.of.2);
}

pub told_at_once-requires-2 : goal.told_at_once-requires-2
told_at_once-requires-2 g c =
    let of = c.requires.of in
    record { of = (of.0, c.new.ensures.of of.0 of.1 of.2) }

use Rattle.speeds.proofs.searches.report_by_quickest_rows.Goals as goal

pub searched-requires : goal.searched-requires
searched-requires g c = record { of = (_, c.in_ok-hybrid.ensures.of _ c.requires.of c.in_ok-prefilter.ensures.of) }

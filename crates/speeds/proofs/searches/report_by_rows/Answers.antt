use Rattle.speeds.proofs.searches.report_by_rows.Goals as goal

pub report_by-requires : goal.report_by-requires
report_by-requires g c = record { of = c.in_ok-hybrid.ensures.of _ c.requires.of }

-- The arguments are right or wrong, and then the status is that of the call.
use Rattle.acredact.proofs.Common.{Arguments, Err, IsWrongLine, all_given, ap, inl, refl, texts, ◌∙◌}
use Rattle.acredact.proofs.Given.{memory_alone, same_given}
use Rattle.acredact.proofs.RedactedCalls.{places_status, places_refused}
use Rattle.acredact.proofs.Statuses.{tells_one}
use Rattle.acredact.proofs.in_place.replace_in_place.Goals as goal

pub returns-in-Err-clause-tells_wrong : goal.returns-in-Err-clause-tells_wrong
returns-in-Err-clause-tells_wrong g c = λ wrong.
    let (line, is_line, told) = c.report.ensures.told in
    tells_one g.E.Sink (IsWrongLine (texts c.args.arguments.now)) _ _ line (Arguments c.in-Err.mistake, (c.in-Err.mistake, refl, c.in-Err.ensures.wrong), is_line) told

pub returns-in-Err-clause-says : goal.returns-in-Err-clause-says
returns-in-Err-clause-says g c = λ given right asks.
    let failure = Arguments c.in-Err.mistake in
    let memory = ap Arguments (memory_alone (texts c.args.arguments.now) given c.in-Err.mistake right c.in-Err.ensures.wrong) in
    rw c.report.ensures.failed (places_status (Err failure) 2 (refl, c.report.ensures.told) (places_refused {failure = failure} (inl (inl memory))))

pub returns-clause-says : goal.returns-clause-says
returns-clause-says g c = λ given right asks.
    let same = ap all_given c.as_slice.ensures.value ∙ same_given _ given _ right c.in-Ok.ensures.given in
    rw same at (places_status c.load_places-done.result c.report_end.result c.report_end.ensures.ends c.load_places-done.ensures)

-- What the input has to give, and what was counted.
use Rattle.acredact.proofs.files.redact_input.Given as goal

abbrev pub ghosts-redact_with : goal.ghosts-redact_with
ghosts-redact_with g a = record { whole = g.I.Read.remaining a.lent.source.now.device.reader; start = a.lent.bytes; name = a.lent.source.ghost_name }

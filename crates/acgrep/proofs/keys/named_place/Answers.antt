-- The source that was found is one of all.
use Rattle.acgrep.proofs.Told.{source-found}
use Rattle.acgrep.proofs.keys.named_place.Goals as goal

pub returns-in-Some-File : goal.returns-in-Some-File
returns-in-Some-File c = record { named = source-found c.args.sources.now c.in-Some.place.source c.in-Some-File.field-0.now c.in-Some-File.name _ c.in-Some-File.ensures.lookup.0 c.in-Some-File.ensures.lookup.1 c.in-Some-File.field-0-is }

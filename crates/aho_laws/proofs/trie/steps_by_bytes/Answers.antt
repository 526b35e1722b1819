use Rattle.aho_laws.proofs.LookUps.{lookups_along-start}
use Rattle.aho_laws.proofs.StepLaw.{held_after-push}
use Rattle.aho_laws.proofs.trie.steps_by_bytes.Goals as goal

pub returns-clause-step : goal.returns-clause-step
returns-clause-step c = λ p anchored word byte. held_after-push p anchored word byte

pub returns-clause-look_ups : goal.returns-clause-look_ups
returns-clause-look_ups c = λ p anchored word. lookups_along-start p anchored word

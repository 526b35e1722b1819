-- The options that grep has too go before the others.
use Rattle.acgrep.proofs.Common.{found_among}
use Rattle.std.proofs.Common.{◌≡◌, List, rules, sym, ℕ}
use Rattle.tool_parts.specs.declared.options.found.Found.{Found}
use Rattle.tool_parts.specs.declared.options.found.Found.TheVariants.{Unknown}
use Rattle.acgrep.specs.Long.{shared_by, shared_options}
use Rattle.acgrep.specs.declared.long.Long.{Long}
use Rattle.acgrep.proofs.long.found_of.Goals as goal

shared_so : (asked : List ℕ) (found : Found Long) → found ≡ found_among shared_options asked Unknown → shared_by asked ≡ found
unfolding shared_by
shared_so asked found is = sym is

pub returns-in-Unknown : goal.returns-in-Unknown
returns-in-Unknown c = record { found = rw (shared_so c.args.name.now c.among.result c.among.ensures.found, c.in-Unknown.is) c.among-in-Unknown.ensures.found }

pub returns-in_default : goal.returns-in_default
returns-in_default c = record { found = rw (shared_so c.args.name.now c.among.result c.among.ensures.found) (search rules) }

-- One option after another.
use Rattle.tool_parts.proofs.OptionNames.{then_option}
use Rattle.acgrep.proofs.actions.folders_in.Goals as goal

pub returns : goal.returns
returns c =
    let asked = c.args.bytes.now in
    let e2 = then_option asked _ _ _ _ _ c.or.ensures.found c.or-2.ensures.found in
    let e3 = then_option asked _ _ _ _ _ e2 c.or-3.ensures.found in
    record { folders = rw (c.option.ensures.meant, e3) at c.ok.ensures.value }

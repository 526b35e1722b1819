use Rattle.std.proofs.Common.{◌≡◌, ◌+◌, ◌<◌, ◌∷◌, ◌++◌, [], List, length, take, sym, ◌∙◌, ap, subst, arith}
use Rattle.std.proofs.lemmas.List.{take_more}
use Rattle.aho_core.specs.Occurrence.{Occurrence}
use Rattle.aho_cover.specs.Counting.{CountsThese}
use Rattle.aho_cover.proofs.Counted.{counts_then}
use Rattle.secret_rules.proofs.writing.count_runs.Goals as goal

pub loop-run-preserved : goal.loop-run-preserved
loop-run-preserved c =
    let runs = c.args.runs.now in
    let i = c.loop-run.run-index in
    let run = c.run-item.result in
    let within : i < length runs = omega arith in
    let more : take (i + 1) runs ≡ take i runs ++ run ∷ [] = take_more runs i run within ∙ ap (λ (x : Occurrence). take i runs ++ x ∷ []) (sym c.run-item.is) in
    subst (λ (xs : List Occurrence). CountsThese xs c.args.counts.now c.count_number.new.counts) (sym more)
    (counts_then (take i runs) (run ∷ []) c.args.counts.now c.loop-run.counts c.count_number.new.counts c.loop-run.invariant (c.count_number.ensures.counted run (sym c.pattern.ensures.pattern)))

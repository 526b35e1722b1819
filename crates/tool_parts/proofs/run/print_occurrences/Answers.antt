-- What was listed so far begins the listing.
use Rattle.std.proofs.Common.{rules, ◌≡◌, List, length, take, drop, ap, ◌∙◌, ◌++◌}
use Rattle.std.proofs.lemmas.List.{take-append-drop}
use Rattle.aho_core.specs.Occurrence.{Occurrence}
use Rattle.aho_core.specs.Overlapping.{all_occurrences}
use Rattle.tool_parts.proofs.Matches.{begun-first}
use Rattle.tool_parts.proofs.run.print_occurrences.Goals as goal

pub returns-clause-begun : goal.returns-clause-begun
returns-clause-begun g c p of =
    let ran = c.print.ensures.begun in
    let all : List Occurrence = all_occurrences p c.args.text.now 0 (length c.args.text.now) in
    let first : ran.0.items ≡ take ran.0.len all = search rules in
    begun-first g.W.Write (λ ms. ms ≡ all) _ _ ran.0.items (drop ran.0.len all) (ap (λ ms. ms ++ drop ran.0.len all) first ∙ take-append-drop ran.0.len all) ran.2

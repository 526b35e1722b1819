-- What comes of the lines, and then what is asked of the file as a whole.
use Rattle.acgrep.proofs.Common.{Covering, Keeps, Outcome}
use Rattle.std.proofs.Common.{◌∙◌, ◌≡◌, ◌⊎◌, List, Option, ap, refl, subst, sym, ℕ}
use Rattle.std.specs.Prelude.{◌≢◌, Ok}
use Rattle.tool_parts.proofs.Ends.{at_end}
use Rattle.acgrep.specs.Files.{BeginsTotal, EndsFile}
use Rattle.acgrep.specs.InTurn.{IfBroken, IfSearched}
use Rattle.acgrep.specs.MarkedFiles.{ComesMarked, HasToldAll, MarksBy, file_asked}
use Rattle.acgrep.specs.declared.files.Outcome.TheVariants.{Stopped}
use Rattle.acgrep.proofs.FilesBegun.{total_none}
use Rattle.acgrep.proofs.FilesMarked.{covering_rules, file_part, file_searched}
use Rattle.acgrep.proofs.InTurn.{if_broken, if_searched, on_broken}
use Rattle.acgrep.proofs.MarksTold.{end-told, outcome-told}
use Rattle.acgrep.proofs.marked_files.mark_reader.Given.{Over}
use Rattle.acgrep.proofs.marked_files.mark_reader.Goals.{After-mark_source-came}
use Rattle.acgrep.proofs.marked_files.mark_reader.Goals as goal

-- what was written of the lines, and of the file as a whole
comes : (g : Over) (c : After-mark_source-came g) (outcome : Outcome) (held' : Option (List ℕ))
    → IfSearched outcome (λ any. ((c.mark_source-came.result.done ≡ Ok tt) ⊎ HasToldAll c.args.job.now.shown c.mark_source-came.result.pass)
    × EndsFile c.args.job.now c.mark_source-came.result.pass.selected (g.W.Sink.taken c.mark_source-came.new.sink) held' any)
    → IfBroken outcome (BeginsTotal c.args.job.now c.mark_source-came.result.pass.selected (g.W.Sink.taken c.mark_source-came.new.sink) held')
    → (known : Option (List ℕ)) → Keeps known (g.R.Read.remaining c.args.reader) → (covering : Covering) → MarksBy g.A.Automaton c.args.marking.now.cover covering
    → ComesMarked c.args.job.now covering known (g.W.Sink.taken c.args.output.now) held' outcome
comes g c outcome held' searched broken known kept covering by =
    let came = c.mark_source-came.result in
    let walks = c.mark_source-came.ensures.walks covering by in
    let asked = ap (file_asked c.args.job.now) (sym (covering_rules g.A.Automaton c.args.marking.now.cover covering c.args.marking.now.rules.now by c.requires.ready.rules)) in
    let left = subst (Keeps known) (sym (c.new-source.ensures.remaining ∙ ap g.R.Read.remaining c.new.ensures.reader)) kept in
    let ends = λ (some : c.mark_source-came.new.source.empty_reads ≢ 0). at_end _ (λ bytes known. c.mark_source-came.new.source.ended bytes some known) in
    record {
      searched = if_searched outcome _ _ (λ any is. file_searched _ g.W.Sink c.args.job.now covering _ _ _ _ _ came.pass _ left c.new-source.ensures.empty_reads ends _ asked came.done walks is.0 any is.1) searched;
      begun = if_broken outcome (file_part _ g.W.Sink c.args.job.now covering _ _ _ _ _ came.pass _ left c.new-source.ensures.empty_reads ends _ asked walks.begun came.pass.selected) broken;
    }

pub returns-in-None-clause-comes : goal.returns-in-None-clause-comes
returns-in-None-clause-comes g c =
    comes g (goal.at.returns-in-None-clause-comes g c).After-mark_source-came c.end_file.result _ (if_searched c.end_file.result _ _ (λ any is. (c.in-None.ensures.none refl, is)) c.end_file.ensures.ended) c.end_file.ensures.begun

pub returns-in-Some-Rule-clause-comes : goal.returns-in-Some-Rule-clause-comes
returns-in-Some-Rule-clause-comes g c = comes g (goal.at.returns-in-Some-Rule-clause-comes g c).After-mark_source-came Stopped _ tt (total_none _ _ _ _ c.flush.ensures.kept)

pub returns-clause-comes : goal.returns-clause-comes
returns-clause-comes g c =
    comes g (goal.at.returns-clause-comes g c).After-mark_source-came c.break_off.result _ (if_searched c.break_off.result _ _ (λ any none. absurd none) c.break_off.ensures.unsearched) (on_broken c.break_off.result c.break_off.ensures.begun)

pub returns-in-None-clause-told : goal.returns-in-None-clause-told
returns-in-None-clause-told g c = end-told g.E.Sink c.args.job.now.hushed c.end_file.result c.args.errors.now c.end_file.new.errors c.end_file.ensures.told

pub returns-clause-told : goal.returns-clause-told
returns-clause-told g c = outcome-told g.E.Sink c.args.job.now.hushed c.args.job.now.style.name.now c.break_off.result c.args.errors.now c.break_off.new.errors c.break_off.ensures.told

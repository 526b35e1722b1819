-- The name is that of standard input, or of a file.
use Rattle.acgrep.proofs.Common.{Keeps-refl, Unread, is_input}
use Rattle.std.proofs.Common.{◌∙◌, Bool, ap, false, sym, true}
use Rattle.std.proofs.Math.Bool.{and-false}
use Rattle.std.specs.Prelude.{◌&&◌}
use Rattle.acgrep.specs.Files.{known_of}
use Rattle.acgrep.proofs.FilesMarked.{name_comes, name_none}
use Rattle.acgrep.proofs.MarksTold.{end-told, named-told, outcome-told}
use Rattle.acgrep.proofs.marked_files.mark_name.Goals as goal

pub returns-then-again-clause-comes : goal.returns-then-again-clause-comes
returns-then-again-clause-comes g c = λ covering by left same.
    name_comes _ _ _ _ _ _ _ _ _ (rw c.shown_name.ensures at c.job_for-named.ensures.named) true
    (ap (λ (b : Bool). b && is_input c.args.name.now) c.if-again.true ∙ sym c.is_input-from_input.ensures ∙ c.if-from_input.true) c.end_file.result c.end_file.ensures.ended c.end_file.ensures.begun

pub returns-in-None-clause-comes : goal.returns-in-None-clause-comes
returns-in-None-clause-comes g c = λ covering by left same.
    let name = c.args.name.now in
    let input = sym c.is_input-from_input.ensures ∙ c.if-from_input.true in
    let comes = c.mark_reader.ensures.comes (known_of (g.F.Open.holds c.args.files.now) name left) (rw input (rw (same c.if-again.false) (Keeps-refl left))) covering by in
    name_comes _ _ _ _ _ _ _ _ _ (rw c.shown_name.ensures at c.job_for-named.ensures.named) false (ap (λ (b : Bool). b && is_input name) c.if-again.false) c.mark_reader.result comes.searched comes.begun

pub returns-in-Ok-clause-comes : goal.returns-in-Ok-clause-comes
returns-in-Ok-clause-comes g c = λ covering by left same.
    let read = c.args.marking.now.input_read in
    let other = sym c.is_input-from_input.ensures ∙ c.if-from_input.false in
    let comes = c.mark_reader-in-Ok.ensures.comes (known_of (g.F.Open.holds c.args.files.now) c.args.name.now left) (rw other c.in-Ok.ensures.held) covering by in
    name_comes _ _ _ _ _ _ _ _ _ (rw c.shown_name.ensures at c.job_for-named.ensures.named) false (ap (λ (b : Bool). read && b) other ∙ and-false read) c.mark_reader-in-Ok.result comes.searched comes.begun

pub returns-clause-comes : goal.returns-clause-comes
returns-clause-comes g c = λ covering by left same. name_none _ _ _ _ _ _ _ _ _ (rw c.shown_name.ensures at c.job_for-named.ensures.named) c.pass_over.ensures.kept

pub returns-then-again-clause-told : goal.returns-then-again-clause-told
returns-then-again-clause-told g c =
    named-told g.E.Sink _ _ _ c.job_for-named.ensures.named c.end_file.result _ _ (end-told g.E.Sink c.job_for-named.result.hushed c.end_file.result c.args.errors.now c.end_file.new.errors c.end_file.ensures.told)

pub returns-in-None-clause-told : goal.returns-in-None-clause-told
returns-in-None-clause-told g c = named-told g.E.Sink _ _ _ c.job_for-named.ensures.named c.mark_reader.result _ _ c.mark_reader.ensures.told

pub returns-in-Ok-clause-told : goal.returns-in-Ok-clause-told
returns-in-Ok-clause-told g c = named-told g.E.Sink _ _ _ c.job_for-named.ensures.named c.mark_reader-in-Ok.result _ _ c.mark_reader-in-Ok.ensures.told

pub returns-clause-told : goal.returns-clause-told
returns-clause-told g c =
    let named = c.job_for-named.result in
    named-told g.E.Sink _ _ _ c.job_for-named.ensures.named Unread _ _ (outcome-told g.E.Sink named.hushed named.style.name.now Unread c.args.errors.now c.pass_over.new.errors c.pass_over.ensures.told)

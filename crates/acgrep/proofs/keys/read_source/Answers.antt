-- The lines of the text or the file are added.
use Rattle.acgrep.proofs.WordLists.{file_words, text_words}
use Rattle.acgrep.proofs.keys.read_source.Goals as goal

pub returns-in_ok-add_text-in-Text-clause-added : goal.returns-in_ok-add_text-in-Text-clause-added
returns-in_ok-add_text-in-Text-clause-added g c = rw c.in-Text.is (text_words (g.F.Open.holds c.args.files.now) _ _ _ _ c.requires.whole c.in_ok-add_text-in-Text.ensures.added)

pub returns-in_ok-end_file-in-File-clause-added : goal.returns-in_ok-end_file-in-File-clause-added
returns-in_ok-end_file-in-File-clause-added g c =
    rw c.in-File.is (file_words (g.F.Open.holds c.args.files.now) _ _ _ _ _ c.end_file.new.self.text.items c.requires.whole (rw c.begin.ensures.same at c.in_ok-read_text-in-File.ensures.added) c.in_ok-end_file-in-File.ensures.lines)

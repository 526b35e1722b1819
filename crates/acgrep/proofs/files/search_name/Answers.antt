-- The name that is told is that of the file, and its bytes are those of its reader.
use Rattle.acgrep.proofs.Common.{Job, Unread, is_input}
use Rattle.std.proofs.Common.{◌∙◌, ◌≡◌, ap, false, refl, sym, true}
use Rattle.acgrep.specs.Files.{SearchesReader, known_of}
use Rattle.acgrep.proofs.FilesBegun.{file_known, file_none, file_read}
use Rattle.acgrep.proofs.InTurn.{if_broken, if_searched}
use Rattle.acgrep.proofs.NamesSearched.{leaves_none}
use Rattle.acgrep.proofs.Told.{told-named}
use Rattle.acgrep.proofs.files.search_name.Goals as goal

pub returns-in-None : goal.returns-in-None
returns-in-None g c =
    let named = c.job_for-named.result in
    let input : is_input c.args.name.now ≡ true = sym c.is_input.ensures ∙ c.if-is_input.true in
    let is = rw c.shown_name.ensures at c.job_for-named.ensures.named in
    let ending = ap (λ (j : Job). j.style.ending) is.is in
    record {
      searched = λ p by plain. if_searched c.search_one.result (SearchesReader p named _ _ _ _) _
          (λ any done. record { named = named; is_named = is; file = rw input done.file; reads = rw input done.reads }) (c.search_one.ensures.searched p by (rw ending plain));
      begun = λ p by plain. if_broken c.search_one.result (λ begins. record { named = named; is_named = is; file = rw input begins }) (c.search_one.ensures.begun p by (rw ending plain));
      leaves = rw input c.search_one.ensures.reads;
      told = told-named g.E.Sink _ _ _ c.args.follows is _ _ _ c.search_one.ensures.told;
    }

pub returns-in-Ok : goal.returns-in-Ok
returns-in-Ok g c =
    let named = c.job_for-named.result in
    let other : is_input c.args.name.now ≡ false = sym c.is_input.ensures ∙ c.if-is_input.false in
    let is = rw c.shown_name.ensures at c.job_for-named.ensures.named in
    let ending = ap (λ (j : Job). j.style.ending) is.is in
    let known = g.F.Open.holds c.args.files.now c.args.name.now in
    record {
      searched = λ p by plain. if_searched c.search_one-in-Ok.result (SearchesReader p named _ _ _ _) _
          (λ any done. record { named = named; is_named = is; file = rw other (file_read p named known _ _ _ any c.in-Ok.ensures.held done.file); reads = rw other refl })
          (c.search_one-in-Ok.ensures.searched p by (rw ending plain));
      begun = λ p by plain. if_broken c.search_one-in-Ok.result (λ begins. record { named = named; is_named = is; file = rw other (file_known p named known _ _ _ c.in-Ok.ensures.held begins) })
          (c.search_one-in-Ok.ensures.begun p by (rw ending plain));
      leaves = rw other refl;
      told = told-named g.E.Sink _ _ _ c.args.follows is _ _ _ c.search_one-in-Ok.ensures.told;
    }

pub returns : goal.returns
returns g c =
    let named = c.job_for-named.result in
    let is = rw c.shown_name.ensures at c.job_for-named.ensures.named in
    record {
      searched = λ p by plain. tt;
      begun = λ p by plain. record {
        named = named;
        is_named = is;
        file = file_none p named (known_of (g.F.Open.holds c.args.files.now) c.args.name.now (g.R.Read.remaining c.args.input.now)) _ _ c.pass_over.ensures.kept;
      };
      leaves = leaves_none c.args.name.now (g.R.Read.remaining c.args.input.now);
      told = told-named g.E.Sink _ _ _ c.args.follows is Unread _ _ c.pass_over.ensures.told;
    }

-- The matches are counted where that is asked for: by what was put down of the search.
use Rattle.acgrep.proofs.Common.{Appends, AppendsBeginning, Keeps, Patterns, name_bytes, pieces_of}
use Rattle.std.proofs.Common.{◌∙◌, List, Option, Some, [], ap, false, inl, inr, subst, sym, ℕ}
use Rattle.std.proofs.KnownBytes.{Keeps-trans}
use Rattle.acgrep.specs.Arguments.{Said, asks_counts, said, shown_by}
use Rattle.acgrep.specs.Files.{search_work}
use Rattle.acgrep.specs.Folders.{Known, known_by}
use Rattle.acgrep.specs.Runs.{BeginsOrKeeps, SearchesReached}
use Rattle.acgrep.specs.Tallies.{counts_table}
use Rattle.acgrep.specs.Told.{MaySay, names_told}
use Rattle.acgrep.specs.declared.colors.Screen.{Screen}
use Rattle.acgrep.proofs.Bools.{where_false, where_true}
use Rattle.acgrep.proofs.InTurn.{begun_kept, or_kept}
use Rattle.acgrep.proofs.Told.{finished, stays-bound, stays-low}
use Rattle.acgrep.proofs.counted.search_or_count.Goals as goal

-- what was searched, or begun, is as it was where the output keeps its bytes
module _ (known : Known) (screen : Screen) (given : Said) (p : Patterns) (names : List (List ℕ)) (left held held' held'' : Option (List ℕ)) (kept : Keeps held' held'') where
  searched_kept : (left' : Option (List ℕ)) (status : ℕ) → SearchesReached known screen given p names left left' held held' status → SearchesReached known screen given p names left left' held held'' status
  searched_kept left' status r = record {
    files = r.files;
    unread = r.unread;
    reached = r.reached;
    job = r.job;
    is_job = r.is_job;
    does = (r.does.0, or_kept (search_work p r.job known.holds) r.job.shown held' held'' kept r.files left left' held r.does.0 r.does.1, r.does.2);
  }

  begun_held : BeginsOrKeeps known screen given p names left held held' → BeginsOrKeeps known screen given p names left held held''
  begun_held (inl keeps) = inl (Keeps-trans held held' held'' keeps kept)
  begun_held (inr r) = inr (record {
    files = r.files;
    unread = r.unread;
    reached = r.reached;
    job = r.job;
    is_job = r.is_job;
    does = begun_kept (search_work p r.job known.holds) r.job.shown held' held'' kept r.files false left held r.does;
  })

pub returns-then-not-asks_counts : goal.returns-then-not-asks_counts
returns-then-not-asks_counts g c =
    let given = said c.args.given.now in
    let ends = c.finish.ensures.told in
    let asked = sym c.asks_counts.ensures.asks ∙ c.if-not-asks_counts.true in
    record {
      bound = stays-bound g.E.Sink _ _ _ _ ends c.search_operands.ensures.bound;
      searched = λ p is plain low.
          let same = stays-low g.E.Sink _ _ _ _ ends low in
          where_false _ (asks_counts given.flags) asked (rw same (searched_kept _ _ given p _ _ _ _ _ c.finish.ensures.kept _ _ (c.search_operands.ensures.searched p is plain (rw same at low))));
      begun = λ p is plain. where_false _ (asks_counts given.flags) asked (begun_held _ _ given p _ _ _ _ _ c.finish.ensures.kept (c.search_operands.ensures.begun p is plain));
      told = finished g.E.Sink (names_told _ _ [] _) (MaySay _ given [] _) (λ line is. inl (inl is)) _ _ _ _ _ _ _ c.search_operands.ensures.told ends;
      flushed = c.finish.ensures.flushed;
    }

pub returns : goal.returns
returns g c =
    let known = known_by g.F.Open g.F.Folders c.args.operands.now.files.now in
    let screen = c.args.screen.now in
    let given = said c.args.given.now in
    let flags = given.flags in
    let names = name_bytes c.args.operands.now.names.now in
    let patterns = pieces_of c.args.patterns.now in
    let left = g.R.Read.remaining c.args.input.now in
    let left' = g.R.Read.remaining c.search_operands-status.new.input in
    let held = g.W.Sink.taken c.args.output.now in
    let held' = g.W.Sink.taken c.end_counts.new.output in
    let status = c.search_operands-status.result in
    let numbers = c.as_slice.result.now in
    let put = Some c.search_operands-status.new.output.device.writer.items in
    let before = c.new-found.ensures.taken ∙ ap Some c.new.ensures.items in
    let after = sym c.into_inner-numbers.ensures.taken ∙ ap Some (sym c.as_slice.ensures.value) in
    let asked = sym c.asks_counts.ensures.asks ∙ c.if-not-asks_counts.false in
    let ends = c.end_counts.ensures.told in
    record {
      bound = stays-bound g.E.Sink _ _ _ _ ends c.search_operands-status.ensures.bound;
      searched = λ p is plain low.
          let same = stays-low g.E.Sink _ _ _ _ ends low in
          let found = c.search_operands-status.ensures.searched p is plain (rw same at low) in
          where_true _ (asks_counts c.args.given.now.flags) asked (
            numbers,
            subst (λ (n : ℕ). SearchesReached known screen given p names left left' (Some []) (Some numbers) n) (sym same)
                (subst (λ (new : Option (List ℕ)). SearchesReached known screen given p names left left' (Some []) new status) after
                (subst (λ (old : Option (List ℕ)). SearchesReached known screen given p names left left' old put status) before found)),
            subst (λ (n : ℕ). Appends held held' (counts_table n patterns numbers)) c.ending.ensures.ending (c.end_counts.ensures.written low),
          );
      begun = λ p is plain. where_true _ (asks_counts c.args.given.now.flags) asked (
        numbers,
        subst (λ (new : Option (List ℕ)). BeginsOrKeeps known screen given p names left (Some []) new) after
            (subst (λ (old : Option (List ℕ)). BeginsOrKeeps known screen given p names left old put) before (c.search_operands-status.ensures.begun p is plain)),
        subst (λ (n : ℕ). AppendsBeginning held held' (counts_table n patterns numbers)) c.ending.ensures.ending c.end_counts.ensures.begun,
      );
      told = finished g.E.Sink (names_told flags.no_messages given.label [] names) (MaySay known.tree given [] names) (λ line is. inl (inl is)) flags.no_messages (shown_by flags) status c.end_counts.result
          c.args.errors.now c.search_operands-status.new.errors c.end_counts.new.errors c.search_operands-status.ensures.told ends;
      flushed = c.end_counts.ensures.flushed;
    }

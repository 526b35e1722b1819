use Rattle.std.proofs.Common.{◌≡◌, ◌+◌, ◌<◌, ℕ, List, [], length, map, refl, sym, ap, subst, ◌∙◌, arith}
use Rattle.std.specs.List.{swap}
use Rattle.aho_table.specs.Remapping.{transposed}
use Rattle.aho_table.specs.Table.{Tables, matches_in}
use Rattle.aho_build.specs.Shuffled.{AreGathered}
use Rattle.aho_build.proofs.MovedRows.{RowsAreMoved-first, RowsAreMoved-swapped}
use Rattle.aho_build.proofs.ShuffledStates.{AreGathered-first, AreGathered-past, AreGathered-swapped}
use Rattle.aho_build.proofs.compiler.shuffle.gather_matches.Goals as goal
use Rattle.aho_build.proofs.compiler.shuffle.gather_matches.Goals.{then-match_len-gt0, else-match_len-gt0}

pub loop-index-init : goal.loop-index-init
loop-index-init c =
    let states = c.args.table.now.states in (
      subst (λ (places : List ℕ). AreGathered 4 4 places states states) (sym c.requires.stay) (AreGathered-first states),
      refl,
      RowsAreMoved-first (length states) c.args.remapper.now c.args.table.now.rows c.requires.stay,
    )

pub loop-index-preserved : goal.loop-index-preserved
loop-index-preserved c =
    let old = c.args.table.now.states in
    let loop = c.loop-index in
    let before = loop.table.states in
    let after = c.if-match_len-gt0.table in
    let sid = c.new_unchecked-sid.ensures.value in
    let same = loop.invariant.0.moved.same_many in
    let listed = ap (λ (n : ℕ). length (matches_in before n)) sid in
    let len = c.match_len.ensures.len in
    elim c.if-match_len-gt0.branch [
      | then-match_len-gt0 w ↦
          let next = w.new_unchecked.ensures.value in
          let states : after.states ≡ swap before loop.index loop.next =
          ap (λ (t : Tables). t.states) w.table-is ∙ w.swap.ensures.swapped ∙ ap (λ (n : ℕ). swap before n w.new_unchecked.result) sid ∙ ap (swap before loop.index) next in
          let places : c.if-match_len-gt0.remapper ≡ map (transposed loop.index loop.next) loop.remapper =
          w.remapper-is ∙ w.swap.ensures.moved ∙ ap (λ (n : ℕ). map (transposed n w.new_unchecked.result) loop.remapper) sid ∙ ap (λ (n : ℕ). map (transposed loop.index n) loop.remapper) next in
          let some : 0 < length (matches_in before loop.index) = let test = w.if-match_len-gt0 in omega arith in
          let below : loop.index < length before = omega arith in
          let rows : after.rows ≡ swap loop.table.rows loop.index loop.next =
          ap (λ (t : Tables). t.rows) w.table-is ∙ w.swap.ensures.marks ∙ ap (λ (n : ℕ). swap loop.table.rows n w.new_unchecked.result) sid ∙ ap (swap loop.table.rows loop.index) next in
          let each = c.facts.ensures.rows in
          let placed = loop.invariant.0.moved.as_many in
          let past = loop.invariant.0.within in
          let count : length loop.remapper ≡ length c.args.table.now.rows = omega arith in
          let of_index : loop.index < length c.args.table.now.rows = omega arith in
          let of_next : loop.next < length c.args.table.now.rows = omega arith in (
            subst (λ (n : ℕ). AreGathered n (loop.index + 1) c.if-match_len-gt0.remapper old after.states) (sym w.next-is)
                (AreGathered-swapped old loop.next loop.index loop.remapper before loop.invariant.0 after.states c.if-match_len-gt0.remapper below some states places),
            ap (λ (t : Tables). record t { states = []; rows = [] }) w.table-is ∙ w.swap.ensures.kept ∙ loop.invariant.1,
            RowsAreMoved-swapped loop.remapper c.if-match_len-gt0.remapper c.args.table.now.rows loop.table.rows after.rows loop.index loop.next count of_index of_next rows places loop.invariant.2,
          )
      | else-match_len-gt0 w ↦
          let none : length (matches_in before loop.index) ≡ 0 = let test = w.if-match_len-gt0 in omega arith in
          let past = AreGathered-past old loop.next loop.index loop.remapper before loop.invariant.0 none in
          rw (w.table-is, w.remapper-is, w.next-is) (past, loop.invariant.1, loop.invariant.2)
    ]

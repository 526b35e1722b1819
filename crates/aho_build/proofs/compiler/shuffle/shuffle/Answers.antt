use Rattle.std.proofs.Common.{◌≡◌, ◌+◌, ◌-◌, ◌<◌, ℕ, length, map, nat_lt, cond, refl, sym, ap, subst, ◌∙◌, arith}
use Rattle.std.specs.List.{swap}
use Rattle.std.proofs.lemmas.List.{length-map}
use Rattle.std.proofs.lemmas.Bool.{cond-true, cond-false, lt-ltb, le-ltb}
use Rattle.aho_table.specs.Remapping.{transposed}
use Rattle.aho_table.specs.Table.{matches_in}
use Rattle.aho_build.specs.Shuffled.{RowsAreMoved}
use Rattle.aho_build.proofs.MovedRows.{RowsAreMoved-swapped}
use Rattle.aho_build.proofs.ShuffledStates.{AreShuffled-end}
use Rattle.aho_build.proofs.compiler.shuffle.shuffle.Goals as goal
use Rattle.aho_build.proofs.compiler.shuffle.shuffle.Goals.{then-match_len-gt0, else-match_len-gt0, then-skips, else-skips}

pub new_unchecked-start_unanchored_id-requires : goal.new_unchecked-start_unanchored_id-requires
new_unchecked-start_unanchored_id-requires c = record { within = let bound = c.gather_matches-next.ensures.bound in omega arith }

pub new_unchecked-start_anchored_id-requires : goal.new_unchecked-start_anchored_id-requires
new_unchecked-start_anchored_id-requires c = record { within = let bound = c.gather_matches-next.ensures.bound in omega arith }

pub returns-clause-shuffled : goal.returns-clause-shuffled
returns-clause-shuffled c =
    let old = c.args.table.now.states in
    let gathered = c.gather_matches-next.new.table.states in
    let new = c.remap.new.r.states in
    let next = c.gather_matches-next.result in
    let unanchored = c.new_unchecked-start_unanchored_id.result in
    let anchored = c.new_unchecked-start_anchored_id.result in
    let g = c.gather_matches-next.ensures.gathered in
    let first = g.first in
    let unanchored_is : unanchored + 2 ≡ next = omega (arith, c.new_unchecked-start_unanchored_id.ensures.value) in
    let anchored_is : anchored + 1 ≡ next = omega (arith, c.new_unchecked-start_anchored_id.ensures.value) in
    let three = c.anchored_start.ensures.start in
    let two = c.unanchored_start.ensures.start in
    let max_match : c.if-match_len-gt0.max_match_id ≡ cond (nat_lt 0 (length (matches_in new anchored))) anchored (unanchored - 1) =
    elim c.if-match_len-gt0.branch [
      | then-match_len-gt0 w ↦
          w.max_match_id-is ∙ sym (cond-true {A = ℕ} (nat_lt 0 (length (matches_in new anchored))) anchored (unanchored - 1)
          (lt-ltb 0 (length (matches_in new anchored)) (let test = w.if-match_len-gt0 in omega (arith, c.match_len.ensures.len))))
      | else-match_len-gt0 w ↦
          w.max_match_id-is ∙ w.new_unchecked-max_match_id.ensures.value ∙ omega (arith, unanchored_is)
          ∙ sym (cond-false {A = ℕ} (nat_lt 0 (length (matches_in new anchored))) anchored (unanchored - 1)
          (le-ltb 0 (length (matches_in new anchored)) (let test = w.if-match_len-gt0 in omega (arith, c.match_len.ensures.len))))
    ] in
    let max_special : c.if-skips.result ≡ cond c.args.skips anchored c.if-match_len-gt0.max_match_id =
    elim c.if-skips.branch [
      | then-skips w ↦ w.result-is ∙ sym (cond-true {A = ℕ} c.args.skips anchored c.if-match_len-gt0.max_match_id w.if-skips.true)
      | else-skips w ↦ w.result-is ∙ sym (cond-false {A = ℕ} c.args.skips anchored c.if-match_len-gt0.max_match_id w.if-skips.false)
    ] in
    let places = c.gather_matches-next.new.remapper in
    let each = c.facts.ensures.rows in
    let placed = g.moved.as_many in
    let past = g.within in
    let count : length places ≡ length c.args.table.now.rows = omega arith in
    let of_three : 3 < length c.args.table.now.rows = let starts = c.requires.starts in omega arith in
    let of_anchored : anchored < length c.args.table.now.rows = omega arith in
    let of_unanchored : unanchored < length c.args.table.now.rows = omega arith in
    let places_once : c.swap.new.self ≡ map (transposed 3 anchored) places = c.swap.ensures.moved ∙ ap (λ (n : ℕ). map (transposed n anchored) places) three in
    let places_twice : c.swap-2.new.self ≡ map (transposed 2 unanchored) c.swap.new.self = c.swap-2.ensures.moved ∙ ap (λ (n : ℕ). map (transposed n unanchored) c.swap.new.self) two in
    let rows_once = RowsAreMoved-swapped places c.swap.new.self c.args.table.now.rows c.gather_matches-next.new.table.rows c.swap.new.r.rows 3 anchored count of_three of_anchored
    (c.swap.ensures.marks ∙ ap (λ (n : ℕ). swap c.gather_matches-next.new.table.rows n anchored) three) places_once c.gather_matches-next.ensures.rows in
    let rows_twice = RowsAreMoved-swapped c.swap.new.self c.swap-2.new.self c.args.table.now.rows c.swap.new.r.rows c.swap-2.new.r.rows 2 unanchored
    (ap length places_once ∙ length-map places (transposed 3 anchored) ∙ count) (omega arith) of_unanchored
    (c.swap-2.ensures.marks ∙ ap (λ (n : ℕ). swap c.swap.new.r.rows n unanchored) two) places_twice rows_once in
    AreShuffled-end old next c.gather_matches-next.new.remapper gathered g unanchored anchored unanchored_is anchored_is
    c.swap.new.r.states c.swap-2.new.r.states c.swap.new.self c.swap-2.new.self
    (c.swap.ensures.swapped ∙ ap (λ (n : ℕ). swap gathered n anchored) three)
    places_once
    (c.swap-2.ensures.swapped ∙ ap (λ (n : ℕ). swap c.swap.new.r.states n unanchored) two)
    places_twice
    new c.remap.ensures.renamed c.args.table.now c.remap.new.r
    (subst (RowsAreMoved c.swap-2.new.self c.args.table.now.rows) (sym c.remap.ensures.marks) rows_twice) c.args.skips
    (record { max_special_id = c.if-skips.result; max_match_id = c.if-match_len-gt0.max_match_id; start_unanchored_id = unanchored; start_anchored_id = anchored })
    refl refl max_match max_special

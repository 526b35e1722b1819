-- How deep the states with rows are, one after another.
use Rattle.std.proofs.Common.{◌≡◌, ℕ, ◌+◌, ◌<◌, true, false, List, [], ◌∷◌, ◌++◌, length, get_or, sym, ap, ◌∙◌, arith}
use Rattle.std.proofs.lemmas.Bool.{both_ways}
use Rattle.std.proofs.lemmas.List.{get_or_append_left, get_or_push, length_push}
use Rattle.aho_table.specs.Table.{State, depth_in, state_at}
use Rattle.aho_hybrid.proofs.Counting.{deep-more, row-before, row-more, rows-first, rows_below}
use Rattle.aho_hybrid.proofs.Filling.{below-or-last}
use Rattle.aho_hybrid.specs.Filled.{AreDepths, is_deep}

module _ (row_depth : ℕ) (states : List State) where
  -- before the first
  pub depths-none : AreDepths row_depth states 0 []
  depths-none = record { sized = sym (rows-first row_depth states); depth = λ i below. absurd (omega (arith, below)) }

  -- a deep state has none
  pub depths-passed : (count : ℕ) (depths : List ℕ) → count < length states → is_deep row_depth (state_at states count) ≡ true → AreDepths row_depth states count depths → AreDepths row_depth states (count + 1) depths
  depths-passed count depths within deep are = record {
    sized = are.sized ∙ sym (deep-more row_depth states count within deep).0;
    depth = below-or-last (λ (n : ℕ). is_deep row_depth (state_at states n) ≡ false → get_or depths (rows_below row_depth states n) 0 ≡ depth_in states n) count are.depth (λ shallow. absurd (both_ways _ shallow deep));
  }

  -- one with a row has its own
  pub depths-added : (count depth : ℕ) (depths depths' : List ℕ) → count < length states → is_deep row_depth (state_at states count) ≡ false → AreDepths row_depth states count depths
      → depths' ≡ depths ++ depth ∷ [] → depth ≡ depth_in states count → AreDepths row_depth states (count + 1) depths'
  depths-added count depth depths depths' within shallow are is value = record {
    sized = ap (λ (l : List ℕ). length l) is ∙ length_push depths depth ∙ ap (λ (n : ℕ). n + 1) are.sized ∙ sym (row-more row_depth states count within shallow).0;
    depth = below-or-last (λ (n : ℕ). is_deep row_depth (state_at states n) ≡ false → get_or depths' (rows_below row_depth states n) 0 ≡ depth_in states n) count
        (λ i below own.
        ap (λ (l : List ℕ). get_or l (rows_below row_depth states i) 0) is
        ∙ get_or_append_left depths (depth ∷ []) 0 (rows_below row_depth states i) (omega (arith, row-before row_depth states i count below (omega (arith, within)) own, are.sized))
        ∙ are.depth i below own)
        (λ own. ap (λ (l : List ℕ). get_or l (rows_below row_depth states count) 0) is ∙ get_or_push depths depth 0 (rows_below row_depth states count) are.sized ∙ value);
  }

-- Rows and records that are filled one after another.
use Rattle.std.proofs.Common.{◌≡◌, ℕ, ◌+◌, ◌-◌, ◌*◌, ◌<◌, ◌≤◌, List, [], ◌∷◌, ◌++◌, length, get_or, refl, sym, ap, subst, ◌∙◌, inl, inr, arith}
use Rattle.std.proofs.Math.Nat.{mul_comm}
use Rattle.std.proofs.lemmas.Bool.{both_ways, cases_eq}
use Rattle.std.proofs.lemmas.List.{append-nil, get_or-append_right, get_or_append_left, get_or_push, length-append, length_push}
use Rattle.std.proofs.lemmas.Nat.{mul-add-lt}
use Rattle.aho_core.specs.Numbers.{greatest_index}
use Rattle.aho_table.specs.Alphabet.{class_count}
use Rattle.aho_table.specs.Table.{IsRising, depth_in, fail_in, matches_in}
use Rattle.aho_hybrid.specs.Filled.{AreRecords, AreRows, HasEntries, IsDeepState, IsListAt, IsPartAt, IsRecord, IsShallow, IsStep, Parts, leads_in, moves_of, number_in, row_in, record_place, source_in, source_of, transitions_of}
use Rattle.aho_hybrid.specs.Layout.{record_size, stride_of}
use Rattle.aho_hybrid.proofs.Counting.{deep-before, deep-first, deep-more, deep_below, row-before, row-more, rows-first, rows_below}
use Rattle.aho_hybrid.proofs.Listed.{part-grows}

-- what holds below a count and at it holds below the next
pub below-or-last : (P : ℕ → Type 0) (count : ℕ) → ((i : ℕ) → i < count → P i) → P count → (i : ℕ) → i < count + 1 → P i
below-or-last P count below last i within =
    elim (cases_eq i count) [
      | inl same ↦ subst P (sym same) last
      | inr other ↦ below i (omega (arith, other, within))
    ]

-- a place of a row stands before the end of the rows
pub in-row : (i column count stride : ℕ) → i < count → column < stride → i * stride + column < count * stride
in-row i column count stride below within = omega (arith, mul-add-lt i stride column count below within, mul_comm stride count)

-- one entry more
pub entry-added : (plan : Parts) (sid class entry : ℕ) (old mid new : List ℕ) → HasEntries plan sid class old mid → new ≡ mid ++ entry ∷ []
    → entry ≡ number_in plan (leads_in plan sid class) → IsStep plan.states sid (get_or plan.firsts class 0) → HasEntries plan sid (class + 1) old new
entry-added plan sid class entry old mid new has is value step = record {
  sized = ap (λ (l : List ℕ). length l) is ∙ length_push mid entry ∙ omega (arith, has.sized);
  same = λ i below. kept i (omega (arith, below, has.sized)) ∙ has.same i below;
  entry = below-or-last (λ (n : ℕ). get_or new (length old + n) 0 ≡ number_in plan (leads_in plan sid n)) class (λ n below. kept (length old + n) (omega (arith, below, has.sized)) ∙ has.entry n below)
      (ap (λ (l : List ℕ). get_or l (length old + class) 0) is ∙ get_or_push mid entry 0 (length old + class) has.sized ∙ value);
  step = below-or-last (λ (n : ℕ). IsStep plan.states sid (get_or plan.firsts n 0)) class has.step step;
}
  where
    kept : (i : ℕ) → i < length mid → get_or new i 0 ≡ get_or mid i 0
    kept i below = ap (λ (l : List ℕ). get_or l i 0) is ∙ get_or_append_left mid (entry ∷ []) 0 i below

module _ (plan : Parts) where
  abbrev stride : ℕ
  stride = stride_of plan.classes

  abbrev rows_at : ℕ → ℕ
  rows_at i = rows_below plan.row_depth plan.states i

  abbrev deep_at : ℕ → ℕ
  deep_at i = deep_below plan.row_depth plan.states i

  -- ---- rows

  -- the state after the rows of others has none
  pub rows-passed : (count : ℕ) (entries : List ℕ) (low : ℕ) → count < length plan.states → IsDeepState plan count → AreRows plan count entries low → AreRows plan (count + 1) entries low
  rows-passed count entries low within deep filled = record {
    sized = filled.sized ∙ ap (λ (n : ℕ). n * stride) (sym (deep-more plan.row_depth plan.states count within deep).0);
    entry = λ i class below shallow. filled.entry i class (less i below shallow) shallow;
    step = λ i class below shallow. filled.step i class (less i below shallow) shallow;
    listed = λ i below shallow. filled.listed i (less i below shallow) shallow;
    others = λ i below shallow past. filled.others i (less i below shallow) shallow past;
    some = filled.some;
  }
    where
      less : (i : ℕ) → i < count + 1 → IsShallow plan i → i < count
      less i below shallow =
          elim (cases_eq i count) [
            | inl same ↦ absurd (both_ways _ (subst (IsShallow plan) same shallow) deep)
            | inr other ↦ omega (arith, other, below)
          ]

  -- one row more
  module _ (count : ℕ) (entries : List ℕ) (low : ℕ) (filled : AreRows plan count entries low) where
    abbrev source : ℕ
    source = source_in plan.special count

    pub row-added : (mid new : List ℕ) (low' place : ℕ) → count < length plan.states → IsShallow plan count
        → HasEntries plan source (class_count plan.classes) entries mid → new ≡ mid ++ place ∷ []
        → IsListAt plan.lists place (matches_in plan.states source) → low ≤ low' → (low' ≤ row_in plan count → matches_in plan.states source ≡ [])
        → AreRows plan (count + 1) new low'
    row-added mid new low' place here own has is placed higher none = record {
      sized =
          ap (λ (l : List ℕ). length l) is ∙ length_push mid place ∙ omega (arith, has.sized, filled.sized, one_more)
          ∙ ap (λ (n : ℕ). n * stride) (sym (row-more plan.row_depth plan.states count here own).0);
      entry = λ i class below shallow within.
          below-or-last (λ (n : ℕ). IsShallow plan n → get_or new (row_in plan n + class) 0 ≡ number_in plan (leads_in plan (source_in plan.special n) class)) count
          (λ n less is_row. old (row_in plan n + class) (inside n class less is_row (omega (arith, within))) ∙ filled.entry n class less is_row within)
          (λ is_row. ap (λ (n : ℕ). get_or new (n + class) 0) (sym filled.sized) ∙ kept (length entries + class) (omega (arith, within, has.sized)) ∙ has.entry class within)
          i below shallow;
      step = λ i class below shallow within.
          below-or-last (λ (n : ℕ). IsShallow plan n → IsStep plan.states (source_in plan.special n) (get_or plan.firsts class 0)) count
          (λ n less is_row. filled.step n class less is_row within) (λ is_row. has.step class within) i below shallow;
      listed = λ i below shallow.
          below-or-last (λ (n : ℕ). IsShallow plan n → IsListAt plan.lists (get_or new (row_in plan n + class_count plan.classes) 0) (matches_in plan.states (source_in plan.special n))) count
          (λ n less is_row.
          subst (λ (m : ℕ). IsListAt plan.lists m (matches_in plan.states (source_in plan.special n))) (sym (old (row_in plan n + class_count plan.classes) (inside n (class_count plan.classes) less is_row (omega arith))))
          (filled.listed n less is_row))
          (λ is_row. subst (λ (m : ℕ). IsListAt plan.lists m (matches_in plan.states source)) (sym last) placed) i below shallow;
      others = λ i below shallow.
          below-or-last (λ (n : ℕ). IsShallow plan n → low' ≤ row_in plan n → matches_in plan.states (source_in plan.special n) ≡ []) count
          (λ n less is_row past. filled.others n less is_row (omega (arith, higher, past))) (λ is_row. none) i below shallow;
      some = omega (arith, filled.some, higher);
    }
      where
        one_more : (rows_at count + 1) * stride ≡ rows_at count * stride + stride
        one_more = omega arith

        inside : (i column : ℕ) → i < count → IsShallow plan i → column < stride → row_in plan i + column < length entries
        inside i column less shallow within =
            omega (arith, in-row (rows_at i) column (rows_at count) stride (row-before plan.row_depth plan.states i count less (omega (arith, here)) shallow) within, filled.sized)

        kept : (i : ℕ) → i < length mid → get_or new i 0 ≡ get_or mid i 0
        kept i below = ap (λ (l : List ℕ). get_or l i 0) is ∙ get_or_append_left mid (place ∷ []) 0 i below

        old : (i : ℕ) → i < length entries → get_or new i 0 ≡ get_or entries i 0
        old i below = kept i (omega (arith, below, has.sized)) ∙ has.same i below

        last : get_or new (row_in plan count + class_count plan.classes) 0 ≡ place
        last =
            ap (λ (l : List ℕ). get_or l (row_in plan count + class_count plan.classes) 0) is
            ∙ get_or_push mid place 0 (row_in plan count + class_count plan.classes) (has.sized ∙ ap (λ (n : ℕ). n + class_count plan.classes) filled.sized)

  -- ---- records

  -- the words of a record, which stands behind others
  pub last-words : (old : List ℕ) (at a b c d e : ℕ) (new : List ℕ) → length old ≡ at → new ≡ old ++ a ∷ b ∷ c ∷ d ∷ e ∷ []
      → (get_or new (at + 0) 0 ≡ a) × (get_or new (at + 1) 0 ≡ b) × (get_or new (at + 2) 0 ≡ c) × (get_or new (at + 3) 0 ≡ d) × (get_or new (at + 4) 0 ≡ e)
  last-words old at a b c d e new sized is = (
    word 0,
    word 1,
    word 2,
    word 3,
    word 4,
  )
    where
      shift : (m : ℕ) (n : ℕ) → m + n - m ≡ n
      shift m n = omega arith

      word : (n : ℕ) → get_or new (at + n) 0 ≡ get_or (a ∷ b ∷ c ∷ d ∷ e ∷ []) n 0
      word n =
          ap (λ (l : List ℕ). get_or l (at + n) 0) is
          ∙ ap (λ (m : ℕ). get_or (old ++ a ∷ b ∷ c ∷ d ∷ e ∷ []) (m + n) 0) (sym sized)
          ∙ get_or-append_right old (a ∷ b ∷ c ∷ d ∷ e ∷ []) (length old) (length old + n) 0 refl (omega arith)
          ∙ ap (λ (m : ℕ). get_or (a ∷ b ∷ c ∷ d ∷ e ∷ []) m 0) (shift (length old) n)

  -- a record stays where it is when more comes behind
  record-grows : (i at : ℕ) (deep deep' moves moves' : List ℕ) → at + record_size ≤ length deep
      → ((n : ℕ) → n < length deep → get_or deep' n 0 ≡ get_or deep n 0)
      → ((place : ℕ) (part : List ℕ) → IsPartAt moves place part → IsPartAt moves' place part)
      → IsRecord plan i deep at moves → IsRecord plan i deep' at moves'
  record-grows i at deep deep' moves moves' inside kept parts is = record {
    link = kept (at + 0) (omega (arith, inside)) ∙ is.link;
    listed = subst (λ (n : ℕ). IsListAt plan.lists n (matches_in plan.states (source_of plan i))) (sym (kept (at + 1) (omega (arith, inside)))) is.listed;
    height = ap (λ (n : ℕ). n + plan.row_depth) (kept (at + 2) (omega (arith, inside))) ∙ is.height;
    moves_at = subst (λ (n : ℕ). IsPartAt moves' n (moves_of plan i)) (sym (kept (at + 3) (omega (arith, inside)))) (parts (get_or deep (at + 3) 0) (moves_of plan i) is.moves_at);
    moves_size = kept (at + 4) (omega (arith, inside)) ∙ is.moves_size;
    rising = is.rising;
    depth_small = is.depth_small;
  }

  module _ (count : ℕ) (deep moves : List ℕ) (deep_low : ℕ) (filled : AreRecords plan count deep moves deep_low) where
    inside : (i : ℕ) → i < count → count ≤ length plan.states → IsDeepState plan i → record_place plan.row_depth plan.states i + record_size ≤ length deep
    inside i less within is_deep = omega (arith, deep-before plan.row_depth plan.states i count less within is_deep, filled.sized)

    -- the state after the records of others has a row
    pub records-passed : count < length plan.states → IsShallow plan count → AreRecords plan (count + 1) deep moves deep_low
    records-passed within shallow = record {
      sized = filled.sized ∙ ap (λ (n : ℕ). n * record_size) (sym (row-more plan.row_depth plan.states count within shallow).1);
      records = λ i below is_deep. filled.records i (less i below is_deep) is_deep;
      others = λ i below is_deep past. filled.others i (less i below is_deep) is_deep past;
    }
      where
        less : (i : ℕ) → i < count + 1 → IsDeepState plan i → i < count
        less i below is_deep =
            elim (cases_eq i count) [
              | inl same ↦ absurd (both_ways _ shallow (subst (IsDeepState plan) same is_deep))
              | inr other ↦ omega (arith, other, below)
            ]

    -- one record more
    pub record-added : (deep' moves' : List ℕ) (deep_low' link list height place size : ℕ) → count < length plan.states → IsDeepState plan count
        → deep' ≡ deep ++ link ∷ list ∷ height ∷ place ∷ size ∷ [] → link ≡ number_in plan (fail_in plan.states (source_of plan count))
        → IsListAt plan.lists list (matches_in plan.states (source_of plan count)) → height + plan.row_depth ≡ depth_in plan.states count
        → moves' ≡ moves ++ moves_of plan count → place ≡ length moves → size ≡ length (moves_of plan count) → IsRising (transitions_of plan count) → depth_in plan.states count ≤ greatest_index
        → deep_low ≤ deep_low' → (deep_low' ≤ number_in plan count → matches_in plan.states (source_of plan count) ≡ [])
        → AreRecords plan (count + 1) deep' moves' deep_low'
    record-added deep' moves' deep_low' link list height place size here own is link_is placed height_is moved place_is size_is rising depth_small higher none = record {
      sized =
          ap (λ (l : List ℕ). length l) is ∙ length-append deep (link ∷ list ∷ height ∷ place ∷ size ∷ []) ∙ omega (arith, filled.sized)
          ∙ ap (λ (n : ℕ). n * record_size) (sym (deep-more plan.row_depth plan.states count here own).1);
      records = λ i below is_deep.
          below-or-last (λ (n : ℕ). IsDeepState plan n → IsRecord plan n deep' (record_place plan.row_depth plan.states n) moves') count
          (λ n less deep_too.
          record-grows n (record_place plan.row_depth plan.states n) deep deep' moves moves' (inside n less (omega (arith, here)) deep_too) kept
          (λ place part at. subst (λ (l : List ℕ). IsPartAt l place part) (sym moved) (part-grows moves (moves_of plan count) place part at))
          (filled.records n less deep_too))
          (λ deep_too. last) i below is_deep;
      others = λ i below is_deep.
          below-or-last (λ (n : ℕ). IsDeepState plan n → deep_low' ≤ number_in plan n → matches_in plan.states (source_of plan n) ≡ []) count
          (λ n less deep_too past. filled.others n less deep_too (omega (arith, higher, past))) (λ deep_too. none) i below is_deep;
    }
      where
        kept : (n : ℕ) → n < length deep → get_or deep' n 0 ≡ get_or deep n 0
        kept n below = ap (λ (l : List ℕ). get_or l n 0) is ∙ get_or_append_left deep (link ∷ list ∷ height ∷ place ∷ size ∷ []) 0 n below

        last : IsRecord plan count deep' (record_place plan.row_depth plan.states count) moves'
        last =
            let words = last-words deep (record_place plan.row_depth plan.states count) link list height place size deep' filled.sized is in
            record {
              link = words.0 ∙ link_is;
              listed = subst (λ (n : ℕ). IsListAt plan.lists n (matches_in plan.states (source_of plan count))) (sym words.1) placed;
              height = ap (λ (n : ℕ). n + plan.row_depth) words.2 ∙ height_is;
              moves_at = subst (λ (n : ℕ). IsPartAt moves' n (moves_of plan count)) (sym words.3)
                  (record { before = moves; after = []; whole = moved ∙ ap (λ (l : List ℕ). moves ++ l) (sym (append-nil (moves_of plan count))); place_is = sym place_is });
              moves_size = words.4 ∙ size_is;
              rising = rising;
              depth_small = depth_small;
            }

  -- ---- before the first

  pub rows-none : (low : ℕ) → 0 < low → AreRows plan 0 [] low
  rows-none low some = record {
    sized = sym (ap (λ (n : ℕ). n * stride) (rows-first plan.row_depth plan.states) ∙ nothing);
    entry = λ i class below. absurd (omega (arith, below));
    step = λ i class below. absurd (omega (arith, below));
    listed = λ i below. absurd (omega (arith, below));
    others = λ i below. absurd (omega (arith, below));
    some = some;
  }
    where
      nothing : 0 * stride ≡ 0
      nothing = omega arith

  pub records-none : AreRecords plan 0 [] [] 0
  records-none = record {
    sized = sym (ap (λ (n : ℕ). n * record_size) (deep-first plan.row_depth plan.states));
    records = λ i below. absurd (omega (arith, below));
    others = λ i below. absurd (omega (arith, below));
  }

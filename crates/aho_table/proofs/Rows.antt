-- Rows: how one is filled from a list, and what a change of the table leaves of them.
use Rattle.std.proofs.Common.{◌≡◌, ℕ, ◌+◌, ◌-◌, ◌<◌, ◌≤◌, Bool, false, List, [], ◌∷◌, ◌++◌, length, map, get_or, drop, take, replicate, refl, sym, ap, subst, ◌∙◌, inl, inr, arith}
use Rattle.std.proofs.Math.ListN.{set, length-set}
use Rattle.std.proofs.Math.Seq.{take-append_seam}
use Rattle.std.proofs.lemmas.Bool.{cases_eq}
use Rattle.std.proofs.lemmas.List.{drop_more, drop_all, get_or_default, length_push, get_or-replicate, get_or-set_same, get_or-set_other, get_or_append_left, get_or-append-add, get_or-take, length-append, length-take-le, length-replicate, length-map, map-set, take-map, get_or-map}
use Rattle.std.specs.List.{swap}
use Rattle.std.proofs.lemmas.List.Edits.{swap_is}
use Rattle.aho_table.specs.Alphabet.{class_of, class_count}
use Rattle.aho_table.specs.Table.{State, Tables, state_at, transition_at, IsRising, LeadsAlike, no_rows}
use Rattle.aho_table.specs.Inside.{IsRowOf, IsRowAdded, IsFilled, start_in, is_start, HasRows}
use Rattle.aho_table.proofs.Classes.{class_of-byte, class_of-count}
use Rattle.aho_table.proofs.TransitionLists.{transition_at-other, transition_at-at}

-- ---- a row is filled, one transition of the list after another

pub IsFilled-first : (classes : List Bool) (transitions : List (ℕ × ℕ)) → IsFilled classes transitions transitions (replicate 256 1)
IsFilled-first classes transitions = record {
  sized = length-replicate {A = ℕ} 256 1;
  leads = λ byte below. inr (get_or-replicate 256 (class_of classes byte) 1 1 (omega (arith, class_of-byte classes byte)), refl);
}

module _ (classes : List Bool) (transitions : List (ℕ × ℕ)) (rising : IsRising transitions) (alike : LeadsAlike classes transitions) (place : ℕ) (row : List ℕ)
    (filled : IsFilled classes transitions (drop place transitions) row) where
  -- the next transition's class leads where the list leads its byte
  pub IsFilled-more : (transition : ℕ × ℕ) → place < length transitions → transition ≡ get_or transitions place transition → transition.0 < 256
      → IsFilled classes transitions (drop (place + 1) transitions) (set row (class_of classes transition.0) transition.1)
  IsFilled-more transition within is small =
      let here = get_or_default transitions place (0, 1) transition within ∙ sym is in
      let led : transition_at transitions transition.0 ≡ transition.1 =
      transition_at-at transitions place transition.0 (0, 1) rising within (ap (λ (t : ℕ × ℕ). t.0) here) ∙ ap (λ (t : ℕ × ℕ). t.1) here in
      let rest : drop place transitions ≡ transition ∷ drop (place + 1) transitions =
      drop_more transitions place transition within ∙ ap (λ (t : ℕ × ℕ). t ∷ drop (place + 1) transitions) (sym is) in
      record {
        sized = length-set row (class_of classes transition.0) transition.1 ∙ filled.sized;
        leads = λ byte below.
            elim (cases_eq (class_of classes byte) (class_of classes transition.0)) [
              | inl one ↦ inl
                  (ap (λ (n : ℕ). get_or (set row (class_of classes transition.0) transition.1) n 1) one
                  ∙ get_or-set_same row (class_of classes transition.0) transition.1 1 (omega (arith, filled.sized, class_of-byte classes transition.0))
                  ∙ sym led ∙ alike transition.0 byte small below (sym one))
              | inr two ↦
                  let other = get_or-set_other row (class_of classes transition.0) (class_of classes byte) transition.1 1 two in
                  elim (filled.leads byte below) [
                    | inl leads ↦ inl (other ∙ leads)
                    | inr nowhere ↦ inr (
                      other ∙ nowhere.0,
                      sym (transition_at-other transition (drop (place + 1) transitions) byte (λ e. two (ap (class_of classes) (sym e))))
                          ∙ ap (λ (ts : List (ℕ × ℕ)). transition_at ts byte) (sym rest) ∙ nowhere.1,
                    )
                  ]
            ];
      }

  pub filled_row : length transitions ≤ place → (byte : ℕ) → byte < 256 → get_or row (class_of classes byte) 1 ≡ transition_at transitions byte
  filled_row past byte below =
      elim (filled.leads byte below) [
        | inl leads ↦ leads
        | inr nowhere ↦ nowhere.0 ∙ ap (λ (ts : List (ℕ × ℕ)). transition_at ts byte) (sym (drop_all place transitions past)) ∙ nowhere.1
      ]

-- ---- it stands behind the others

pub IsRowAdded-behind : (classes : List Bool) (transitions : List (ℕ × ℕ)) (old row new : List ℕ) (len : ℕ) → len ≡ class_count classes → len ≤ 256 → length row ≡ 256 → new ≡ old ++ take len row
    → ((byte : ℕ) → byte < 256 → get_or row (class_of classes byte) 1 ≡ transition_at transitions byte) → IsRowAdded classes old transitions new
IsRowAdded-behind classes transitions old row new len count few sized is leads =
    let within : len ≤ length row = omega arith in
    let longer : length new ≡ length old + len = ap length is ∙ length-append old (take len row) ∙ ap (λ (n : ℕ). length old + n) (length-take-le len row within) in
    record {
      few = omega arith;
      longer = omega arith;
      kept = λ i below. ap (λ (xs : List ℕ). get_or xs i 1) is ∙ get_or_append_left old (take len row) 1 i below;
      added = record {
        row = record { some = omega arith; within = omega arith };
        leads = λ byte below.
            let place : length old + 1 + class_of classes byte - 1 ≡ length old + class_of classes byte = omega arith in
            ap (λ (n : ℕ). get_or new n 1) place ∙ ap (λ (xs : List ℕ). get_or xs (length old + class_of classes byte) 1) is
            ∙ get_or-append-add old (take len row) (class_of classes byte) 1
            ∙ get_or-take len row (class_of classes byte) 1 (omega (arith, class_of-count classes byte))
            ∙ leads byte below;
      };
    }

-- ---- what a change of the table leaves of the rows

-- a row among the entries leads as before, once others stand behind them
IsRowOf-kept : (classes : List Bool) (old new : List ℕ) (transitions : List (ℕ × ℕ)) (start : ℕ) → length old ≤ length new
    → ((i : ℕ) → i < length old → get_or new i 1 ≡ get_or old i 1) → IsRowOf classes old transitions start → IsRowOf classes new transitions start
IsRowOf-kept classes old new transitions start longer kept is = record {
  row = record { some = is.row.some; within = let within = is.row.within in omega arith };
  leads = λ byte below.
      let some = is.row.some in
      let within = is.row.within in
      kept (start + class_of classes byte - 1) (omega (arith, class_of-count classes byte)) ∙ is.leads byte below;
}

module _ (states : List State) (starts : List ℕ) (classes : List Bool) (entries : List ℕ) (limit : ℕ) (has : HasRows states starts classes entries limit) where
  -- the state gets a row behind the others
  pub HasRows-added : (sid again start : ℕ) (new : List ℕ) → sid < length states → again ≡ sid → start ≡ length entries + 1 → start ≤ limit
      → IsRowAdded classes entries (state_at states sid).transitions new → HasRows states (set starts again start) classes new limit
  HasRows-added sid again start new below same is small added =
      let longer = added.longer in
      let few = added.few in
      let count = has.state_count in
      record {
        state_count = omega (arith, length-set starts again start);
        bounded = omega arith;
        rows = λ i some.
            elim (cases_eq i again) [
              | inl here ↦
                  let first : start_in (set starts again start) i ≡ length entries + 1 =
                  ap (λ (n : ℕ). get_or (set starts again start) n 0) here ∙ get_or-set_same starts again start 0 (omega arith) ∙ is in
                  subst (λ (n : ℕ). IsRowOf classes new (state_at states i).transitions n) (sym first)
                  (subst (λ (n : ℕ). IsRowOf classes new (state_at states n).transitions (length entries + 1)) (sym (here ∙ same)) added.added)
              | inr there ↦
                  let other : start_in (set starts again start) i ≡ start_in starts i = get_or-set_other starts again i start 0 there in
                  subst (λ (n : ℕ). IsRowOf classes new (state_at states i).transitions n) (sym other)
                  (IsRowOf-kept classes entries new (state_at states i).transitions (start_in starts i) (omega arith) added.kept (has.rows i (omega arith)))
            ];
      }

-- ---- which states have a row, by the starts

-- a table is what its parts are
pub same_tables : (one two : Tables) → one.states ≡ two.states → one.limit ≡ two.limit → one.classes ≡ two.classes → one.dense_len ≡ two.dense_len → one.rows ≡ two.rows → one ≡ two
same_tables one two states limit classes len rows =
    ap (λ (x : List State). record one { states = x }) states
    ∙ ap (λ (x : ℕ). record one { states = two.states; limit = x }) limit
    ∙ ap (λ (x : List Bool). record one { states = two.states; limit = two.limit; classes = x }) classes
    ∙ ap (λ (x : ℕ). record two { dense_len = x; rows = one.rows }) len
    ∙ ap (λ (x : List Bool). record two { rows = x }) rows

-- one state's start is another
pub starts-set : (starts : List ℕ) (sid again start : ℕ) (row : Bool) → again ≡ sid → is_start start ≡ row → map is_start (set starts again start) ≡ set (map is_start starts) sid row
starts-set starts sid again start row same is =
    map-set is_start starts again start ∙ ap (set (map is_start starts) again) is ∙ ap (λ (n : ℕ). set (map is_start starts) n row) same

starts-zero : (states : List State) → map is_start (replicate (length states) 0) ≡ no_rows states
starts-zero [] = refl
starts-zero (state ∷ states) = ap (λ (rows : List Bool). false ∷ rows) (starts-zero states)

-- every start is forgotten
pub starts-none : (states : List State) (count : ℕ) (filled : List ℕ) → filled ≡ replicate count 0 → count ≡ length states → map is_start filled ≡ no_rows states
starts-none states count filled is same = ap (map is_start) (is ∙ ap (λ (n : ℕ). replicate n 0) same) ∙ starts-zero states

-- the last start is taken away
pub starts-popped : (starts fewer : List ℕ) (rows : List Bool) (row : Bool) (count : ℕ) → fewer ≡ take count starts → count + 1 ≡ length starts → map is_start starts ≡ rows ++ row ∷ [] → map is_start fewer ≡ rows
starts-popped starts fewer rows row count is last before =
    let size : count ≡ length rows = omega (arith, ap length before, length_push rows row, length-map starts is_start) in
    ap (map is_start) is ∙ sym (take-map is_start count starts) ∙ ap (take count) before ∙ ap (λ (n : ℕ). take n (rows ++ row ∷ [])) size ∙ take-append_seam rows (row ∷ [])

-- two states change places
pub starts-swapped : (starts swapped : List ℕ) (a b : ℕ) → a < length starts → b < length starts → swapped ≡ swap starts a b → map is_start swapped ≡ swap (map is_start starts) a b
starts-swapped starts swapped a b of_a of_b is =
    let first = get_or-map is_start starts a 0 false of_a in
    let second = get_or-map is_start starts b 0 false of_b in
    ap (map is_start) (is ∙ sym (swap_is starts a b 0 of_a of_b))
    ∙ map-set is_start (set starts a (get_or starts b 0)) b (get_or starts a 0)
    ∙ ap (λ (rows : List Bool). set rows b (is_start (get_or starts a 0))) (map-set is_start starts a (get_or starts b 0))
    ∙ ap (λ (row : Bool). set (set (map is_start starts) a (is_start (get_or starts b 0))) b row) (sym first)
    ∙ ap (λ (row : Bool). set (set (map is_start starts) a row) b (get_or (map is_start starts) a false)) (sym second)
    ∙ swap_is (map is_start starts) a b false (omega (arith, length-map starts is_start)) (omega (arith, length-map starts is_start))

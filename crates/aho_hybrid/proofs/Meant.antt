-- The states that were laid out are an automaton of the same patterns: what they stand for.
use Rattle.std.proofs.Common.{◌≡◌, ◌≢◌, ◌⊎◌, ℕ, zero, suc, ◌+◌, ◌-◌, ◌<◌, ◌≤◌, ◌||◌, ◌&&◌, Bool, true, false, cond, List, [], ◌∷◌, ◌++◌, length, map, get_or, nat_eq, refl, sym, ap, subst, ◌∙◌, inl, inr, arith, eq-eqb, ne_eqb, eqb-true, append_assoc}
use Rattle.std.specs.Prelude.{Option, Some, None, is_none, nat_lt, not}
use Rattle.std.specs.List.{All}
use Rattle.std.proofs.lemmas.Bool.{both_ways, cases_Bool, cases_eq, cases_lt, cases_order, cond-true, cond-false, le-ltb, lt-ltb}
use Rattle.std.proofs.lemmas.Bool.Decides.{nat_tests}
use Rattle.std.proofs.lemmas.List.{append-nil}
use Rattle.std.proofs.lemmas.List.Elements.{All-head, All-map, All-tail, All-weaker}
use Rattle.aho_core.specs.Bytes.{folded, folded_word}
use Rattle.aho_core.specs.Failure.{state_after}
use Rattle.aho_core.specs.Held.{held_after}
use Rattle.aho_core.specs.MatchList.{matches_of}
use Rattle.aho_core.specs.Patterns.{Patterns}
use Rattle.aho_core.specs.Step.{depth_of, follow}
use Rattle.aho_core.specs.declared.search.Anchored.TheVariants.{No}
use Rattle.aho_core.specs.declared.search.MatchKind.{MatchKind}
use Rattle.aho_build.proofs.AutomatonStates.{held-dead, held-failed, held-lists, held-taken}
use Rattle.aho_build.proofs.LinkedNodes.{named-ne_dead, state-named}
use Rattle.aho_build.proofs.NamesOfTries.{name_at-below}
use Rattle.aho_build.proofs.OneWordMore.{folded-small}
use Rattle.aho_build.specs.Automaton.{IsAutomaton}
use Rattle.aho_build.specs.Dense.{HasBorders}
use Rattle.aho_build.specs.Shuffled.{IsInOrder}
use Rattle.aho_build.specs.StateNames.{IsStateOf, name_at}
use Rattle.aho_build.specs.Walking.{AreStarts, IsSound, IsState, links_left, step_in}
use Rattle.aho_laws.proofs.Starts.{live_start}
use Rattle.aho_laws.proofs.StepLaw.{held_after-push, state-of_node}
use Rattle.aho_table.proofs.Classes.{class_of-count}
use Rattle.aho_table.specs.Alphabet.{class_count, class_of}
use Rattle.aho_table.specs.Table.{depth_in, fail_in, matches_in, next_in, state_at}
use Rattle.aho_hybrid.proofs.Alike.{follows, step-alike}
use Rattle.aho_hybrid.proofs.Counting.{deep-before, row-before, rows_below}
use Rattle.aho_hybrid.proofs.Filling.{in-row}
use Rattle.aho_hybrid.proofs.Listed.{list-at}
use Rattle.aho_hybrid.proofs.Made.{child-of, dead-shallow, deep-of, depth-is, entry-of, height-deep, height-row, layout, link-of, number-dead, number-deep, number-row, place-of, root-shallow, row-of, row-shallow}
use Rattle.aho_hybrid.proofs.Stepping.{told-none, told-some}
use Rattle.aho_hybrid.specs.declared.fill.Filled.{Filled}
use Rattle.aho_hybrid.specs.Filled.{AreFirstBytes, IsDeepState, AreLaidOut, IsPlan, IsShallow, Parts, first_low, is_deep, leads_in, number_in, row_in, source_of}
use Rattle.aho_hybrid.specs.Made.{AreMarkedIn, HasRowsDownTo}
use Rattle.aho_hybrid.specs.Layout.{IsSoundLayout, Layout, along, child_in, depth_below_rows, depth_of_state, is_row, is_marked_number, link_in, list_from, list_in, list_place, next_state_in, run_from, standing_in, stride_of, IsHeldIn, is_special_number}
use Rattle.aho_hybrid.specs.Reading.{IsLayoutOf, along-child, along-link, along-row, deep-test, row-test}

-- what holds of all holds of those behind some
All-behind : (front word : List ℕ) → All (λ (b : ℕ). b < 256) (front ++ word) → All (λ (b : ℕ). b < 256) word
All-behind [] word all = all
All-behind (x ∷ front) word all = All-behind front word (All-tail (λ (b : ℕ). b < 256) x (front ++ word) all)

module _ (plan : Parts) (words : ℕ) (planned : IsPlan plan words) (filled : Filled) (done : AreLaidOut plan (length plan.states) filled)
    (starts : AreStarts plan.special plan.states) (sound : IsSound plan.states) (soundly : IsSoundLayout (layout plan words planned filled done starts sound))
    (first : AreFirstBytes plan.classes plan.firsts)
    (p : Patterns) (names : List (Option (List ℕ))) (a : IsAutomaton plan.special p names plan.states) (borders : HasBorders p plan.classes) where
  abbrev t : Layout
  t = layout plan words planned filled done starts sound

  abbrev start : ℕ
  start = plan.special.start_unanchored_id

  abbrev size : ℕ
  size = length plan.states

  -- ---- the states of words

  -- they are there
  of-state : (state : Option (List ℕ)) (s : ℕ) → IsStateOf names state s → IsState plan.states s
  of-state None s dead = subst (IsState plan.states) (sym dead) sound.dead_state
  of-state (Some word) s named =
      (omega (arith, a.nodes.sized, name_at-below names s word named), λ e. (let clash : None ≡ Some word = sym a.nodes.fail ∙ sym (ap (name_at names) e) ∙ named in cc))

  -- and stand at their own places
  own-place : (state : Option (List ℕ)) (s : ℕ) → IsStateOf names state s → source_of plan s ≡ s
  own-place None s dead = ap (source_of plan) dead ∙ sym dead
  own-place (Some word) s named =
      cond-false {A = ℕ} (nat_eq s 0) 0 (cond (nat_eq s 1 || nat_eq s plan.special.start_anchored_id) start s) (ne_eqb s 0 (named-ne_dead start p names plan.states a.nodes s word named))
      ∙ cond-false {A = ℕ} (nat_eq s 1 || nat_eq s plan.special.start_anchored_id) start s neither
    where
      not_fail : s ≢ 1
      not_fail e = let clash : None ≡ Some word = sym a.nodes.fail ∙ sym (ap (name_at names) e) ∙ named in cc

      not_anchored : s ≢ plan.special.start_anchored_id
      not_anchored e = let clash : None ≡ Some word = sym a.anchored.unnamed ∙ sym (ap (name_at names) e) ∙ named in cc

      neither : (nat_eq s 1 || nat_eq s plan.special.start_anchored_id) ≡ false
      neither = ap (λ (b : Bool). b || nat_eq s plan.special.start_anchored_id) (ne_eqb s 1 not_fail) ∙ ne_eqb s plan.special.start_anchored_id not_anchored

  -- the number is that of a state of the word, or of none
  abbrev Stands : Option (List ℕ) → ℕ → Type 0
  Stands state sid = (s : ℕ) × (sid ≡ number_in plan s) × IsStateOf names state s

  -- ---- where a byte leads

  from-row : (byte left s : ℕ) (state : Option (List ℕ)) → byte < 256 → IsStateOf names state s → 0 < left → IsShallow plan s → Stands (follow p No state (folded p byte)) (along t byte left (number_in plan s))
  from-row byte left s state small is some shallow =
      let class : ℕ = class_of plan.classes byte in
      let within = class_of-count plan.classes byte in
      let below = (of-state state s is).0 in
      let step = done.rows.step s class below shallow within in
      let own = own-place state s is in
      let led = along-row t byte left (number_in plan s) (row-test t (number_in plan s) (row-of plan words planned filled done starts sound s below shallow)) some in
      let named = (state-named start p names plan.states a.nodes state s is).0 in
      let same : step_in plan.states No s (get_or plan.firsts class 0) ≡ step_in plan.states No s byte =
      step-alike plan.special p names plan.states a plan.classes borders (get_or plan.firsts class 0) byte step.small small (first.of_class byte small) (links_left plan.states s + 1) s named in (
        step_in plan.states No s byte,
        led.0 ∙ entry-of plan words planned filled done starts sound s class below shallow within ∙ ap (λ (n : ℕ). number_in plan (leads_in plan n class)) own ∙ ap (number_in plan) same,
        follows plan.special p names plan.states a sound byte (links_left plan.states s + 1) s state small (omega arith) (of-state state s is) is,
      )

  from-deep : (byte left s : ℕ) (state : Option (List ℕ)) → byte < 256 → IsStateOf names state s → depth_below_rows t (number_in plan s) < left + 1 → IsDeepState plan s
      → ((further : Option (List ℕ)) (next : ℕ) → IsStateOf names further next → depth_below_rows t (number_in plan next) < left → Stands (follow p No further (folded p byte)) (along t byte left (number_in plan next)))
      → Stands (follow p No state (folded p byte)) (along t byte (suc left) (number_in plan s))
  from-deep byte left s state small is less deep rest =
      let below = (of-state state s is).0 in
      let own = own-place state s is in
      let sid : ℕ = number_in plan s in
      let is_deep_too = deep-of plan words planned filled done starts sound s below deep in
      let test = deep-test t sid is_deep_too in
      let child = child-of plan words planned filled done starts sound s byte below deep in
      let leads : next_in plan.states (source_of plan s) byte ≡ next_in plan.states s byte = ap (λ (n : ℕ). next_in plan.states n byte) own in
      elim (cases_eq (next_in plan.states s byte) 1) [
        | inr some ↦
            let taken = child ∙ told-some plan.numbers (next_in plan.states (source_of plan s) byte) (λ e. some (sym leads ∙ e)) in
            let led = along-child t byte (suc left) sid (number_in plan (next_in plan.states (source_of plan s) byte)) test taken (omega arith) in
            (next_in plan.states s byte, led.0 ∙ ap (number_in plan) leads, (held-taken plan.special p names plan.states a No state s byte small is some).0)
        | inl none ↦
            let missing : child_in t sid byte ≡ None = child ∙ told-none plan.numbers (next_in plan.states (source_of plan s) byte) (leads ∙ none) in
            let led = along-link t byte left sid test missing in
            let link : link_in t sid ≡ number_in plan (fail_in plan.states s) = link-of plan words planned filled done starts sound s below deep ∙ ap (λ (n : ℕ). number_in plan (fail_in plan.states n)) own in
            let further = held-failed plan.special p names plan.states a No state s byte refl small is none in
            let nearer = (soundly.in_deep.link sid byte is_deep_too small missing).1 in
            let there = rest further.0 (fail_in plan.states s) further.1 (omega (arith, ap (depth_below_rows t) link, nearer, less)) in (
              there.0,
              led.0 ∙ ap (along t byte left) link ∙ there.1,
              subst (λ (o : Option (List ℕ)). IsStateOf names o there.0) (sym further.2) there.2,
            )
      ]

  -- along the links a byte leads as it leads from word to word
  stands-along : (byte left s : ℕ) (state : Option (List ℕ)) → byte < 256 → IsStateOf names state s → depth_below_rows t (number_in plan s) < left → Stands (follow p No state (folded p byte)) (along t byte left (number_in plan s))
  stands-along byte zero s state small is less = absurd (omega (arith, less))
  stands-along byte (suc left) s state small is less =
      elim (cases_Bool (is_deep plan.row_depth (state_at plan.states s))) [
        | inr shallow ↦ from-row byte (suc left) s state small is (omega arith) shallow
        | inl deep ↦ from-deep byte left s state small is (omega (arith, less)) deep (λ further next named near. stands-along byte left next further small named near)
      ]

  stands-next : (byte sid : ℕ) (state : Option (List ℕ)) → byte < 256 → Stands state sid → Stands (follow p No state (folded p byte)) (next_state_in t sid byte)
  stands-next byte sid state small stands =
      subst (λ (n : ℕ). Stands (follow p No state (folded p byte)) (next_state_in t n byte)) (sym stands.1)
      (stands-along byte (depth_below_rows t (number_in plan stands.0) + 1) stands.0 state small stands.2 (omega arith))

  stands-run : (before word : List ℕ) (sid : ℕ) → All (λ (b : ℕ). b < 256) word → Stands (held_after p No before) sid → Stands (held_after p No (before ++ word)) (run_from t sid word)
  stands-run before [] sid small stands = subst (λ (w : List ℕ). Stands (held_after p No w) sid) (sym (append-nil before)) stands
  stands-run before (x ∷ word) sid small stands =
      let byte = All-head (λ (b : ℕ). b < 256) x word small in
      let next = stands-next x sid (held_after p No before) byte stands in
      let pushed = subst (λ (o : Option (List ℕ)). Stands o (next_state_in t sid x)) (sym (held_after-push p No before x)) next in
      subst (λ (w : List ℕ). Stands (held_after p No w) (run_from t (next_state_in t sid x) word)) (append_assoc before (x ∷ []) word)
      (stands-run (before ++ x ∷ []) word (next_state_in t sid x) (All-tail (λ (b : ℕ). b < 256) x word small) pushed)

  stands-word : (word : List ℕ) → All (λ (b : ℕ). b < 256) word → Stands (held_after p No word) (run_from t t.start word)
  stands-word word small = stands-run [] word t.start small (start, refl, a.nodes.root)

  -- a state of the words has one place, to which its own word leads
  one-place : (state : Option (List ℕ)) (s r : ℕ) → IsStateOf names state s → IsStateOf names state r → s ≡ r
  one-place None s r one two = one ∙ sym two
  one-place (Some word) s r one two = a.nodes.unique s r word one two

  own-word : (word node : List ℕ) → All (λ (b : ℕ). b < 256) word → held_after p No word ≡ Some node → All (λ (b : ℕ). b < 256) node
  own-word word node small is =
      let folds = All-map (λ (b : ℕ). b < 256) (folded p) word (All-weaker (λ (b : ℕ). b < 256) (λ b. folded p b < 256) (folded-small p) word small) in
      let front = live_start p (folded_word p word) node is in
      All-behind front.0 node (subst (All (λ (b : ℕ). b < 256)) front.1 folds)

  stands-there : (word : List ℕ) → All (λ (b : ℕ). b < 256) word → (state : Option (List ℕ)) → held_after p No word ≡ state → run_from t t.start word ≡ standing_in t state
  stands-there word small None is =
      let one = subst (λ (o : Option (List ℕ)). Stands o (run_from t t.start word)) is (stands-word word small) in
      one.1 ∙ ap (number_in plan) one.2 ∙ number-dead plan words planned filled done starts sound
  stands-there word small (Some node) is =
      let one = subst (λ (o : Option (List ℕ)). Stands o (run_from t t.start word)) is (stands-word word small) in
      let node_is = a.nodes.words one.0 node one.2 in
      let again : held_after p No node ≡ Some node = ap (state_after p) node_is.1 ∙ state-of_node p node node_is.0 in
      let two = subst (λ (o : Option (List ℕ)). Stands o (run_from t t.start node)) again (stands-word node (own-word word node small is)) in
      one.1 ∙ ap (number_in plan) (one-place (Some node) one.0 two.0 one.2 two.2) ∙ sym two.1

  -- ---- what they list, and which is dead or the start

  lists-own : (s : ℕ) → s < size → source_of plan s ≡ s → list_in t (number_in plan s) ≡ matches_in plan.states s
  lists-own s below own =
      let at = place-of plan words planned filled done starts sound s below in
      let there : list_from t.lists (list_place t (number_in plan s)) ≡ matches_in plan.states s =
      ap (list_from t.lists) at.1 ∙ list-at t.lists at.0 (matches_in plan.states (source_of plan s)) at.2 ∙ ap (matches_in plan.states) own in
      elim (cases_Bool (is_marked_number t (number_in plan s))) [
        | inl special ↦ cond-true (is_marked_number t (number_in plan s)) (list_from t.lists (list_place t (number_in plan s))) [] special ∙ there
        | inr plain ↦
            cond-false (is_marked_number t (number_in plan s)) (list_from t.lists (list_place t (number_in plan s))) [] plain
            ∙ sym (ap (matches_in plan.states) (sym own) ∙ unlisted plain)
      ]
    where
      unlisted : is_marked_number t (number_in plan s) ≡ false → matches_in plan.states (source_of plan s) ≡ []
      unlisted plain =
          elim (cases_Bool (is_deep plan.row_depth (state_at plan.states s))) [
            | inl deep ↦
                let test = deep-test t (number_in plan s) (deep-of plan words planned filled done starts sound s below deep) in
                let high : nat_lt (number_in plan s) t.deep_low ≡ false = sym (cond-false (is_row t (number_in plan s)) (nat_lt (number_in plan s) t.list_low) (nat_lt (number_in plan s) t.deep_low) test) ∙ plain in
                done.records.others s below deep (grind (arith, nat_tests))
            | inr shallow ↦
                let test = row-test t (number_in plan s) (row-of plan words planned filled done starts sound s below shallow) in
                let high : nat_lt (number_in plan s) t.list_low ≡ false = sym (cond-true (is_row t (number_in plan s)) (nat_lt (number_in plan s) t.list_low) (nat_lt (number_in plan s) t.deep_low) test) ∙ plain in
                let same = number-row plan words planned filled done starts sound s below shallow in
                done.rows.others s below shallow (grind (arith, nat_tests))
          ]

  stands-lists : (state : Option (List ℕ)) (sid : ℕ) → Stands state sid → list_in t sid ≡ matches_of p state
  stands-lists state sid stands =
      ap (list_in t) stands.1
      ∙ lists-own stands.0 (of-state state stands.0 stands.2).0 (own-place state stands.0 stands.2)
      ∙ held-lists plan.special p names plan.states a No state stands.0 stands.2

  -- two states of which one has a row have different numbers
  apart : (s r : ℕ) → s < size → r < size → IsShallow plan r → number_in plan s ≡ number_in plan r → s ≡ r
  apart s r below within shallow same =
      let at = number-row plan words planned filled done starts sound r within shallow in
      let inside = (row-of plan words planned filled done starts sound r within shallow).within in
      elim (cases_Bool (is_deep plan.row_depth (state_at plan.states s))) [
        | inl deep ↦ absurd (omega (arith, number-deep plan words planned filled done starts sound s below deep, inside, same))
        | inr own ↦
            let is = number-row plan words planned filled done starts sound s below own in
            elim (cases_order s r) [
              | inl equal ↦ equal
              | inr other ↦
                  elim other [
                    | inl before ↦
                        absurd
                        (omega
                        (arith, in-row (rows_below plan.row_depth plan.states s) 0 (rows_below plan.row_depth plan.states r) (stride_of plan.classes) (row-before plan.row_depth plan.states s r before (omega (arith, within)) own) (omega arith), is, at, same))
                    | inr behind ↦
                        absurd
                        (omega
                        (arith, in-row (rows_below plan.row_depth plan.states r) 0 (rows_below plan.row_depth plan.states s) (stride_of plan.classes) (row-before plan.row_depth plan.states r s behind (omega (arith, below)) shallow) (omega arith), is, at, same))
                  ]
            ]
      ]

  dead-apart : (s : ℕ) → s < size → nat_eq (number_in plan s) 0 ≡ nat_eq s 0
  dead-apart s below =
      let zero_at = number-dead plan words planned filled done starts sound in
      elim (cases_eq s 0) [
        | inl dead ↦ ap (λ (n : ℕ). nat_eq (number_in plan n) 0) dead ∙ ap (λ (n : ℕ). nat_eq n 0) zero_at ∙ sym (ap (λ (n : ℕ). nat_eq n 0) dead)
        | inr alive ↦
            ne_eqb (number_in plan s) 0
            (λ e. alive (apart s 0 below sound.dead_state.0 (le-ltb plan.row_depth (depth_in plan.states 0) (omega (arith, sound.dead_depth))) (e ∙ sym zero_at)))
            ∙ sym (ne_eqb s 0 alive)
      ]

  stands-dies : (state : Option (List ℕ)) (sid : ℕ) → Stands state sid → nat_eq sid 0 ≡ is_none state
  stands-dies state sid stands =
      ap (λ (n : ℕ). nat_eq n 0) stands.1
      ∙ dead-apart stands.0 (of-state state stands.0 stands.2).0
      ∙ held-dead plan.special p names plan.states a No state stands.0 stands.2

  stands-begins : (state : Option (List ℕ)) (sid : ℕ) → Stands state sid → nat_eq sid t.start ≡ true → state ≡ Some []
  stands-begins state sid stands same =
      let number : number_in plan stands.0 ≡ number_in plan start = sym stands.1 ∙ eqb-true sid t.start same in
      let is : stands.0 ≡ start =
      apart stands.0 start (of-state state stands.0 stands.2).0 starts.unanchored.state.0 (root-shallow plan words planned filled done starts sound) number in
      sym (state-named start p names plan.states a.nodes state stands.0 stands.2).1 ∙ ap (name_at names) is ∙ a.nodes.root

  -- a state is as deep as its word is long
  as-deep : (state : Option (List ℕ)) (s : ℕ) → IsStateOf names state s → depth_in plan.states s ≡ depth_of state
  as-deep None s dead = ap (depth_in plan.states) dead ∙ sound.dead_depth
  as-deep (Some word) s named = a.nodes.depths s word named

  stands-deep : (state : Option (List ℕ)) (sid : ℕ) → Stands state sid → depth_of_state t sid ≡ depth_of state
  stands-deep state sid stands =
      ap (depth_of_state t) stands.1 ∙ depth-is plan words planned filled done starts sound stands.0 (of-state state stands.0 stands.2).0 ∙ as-deep state stands.0 stands.2

  pub layout-of : (kind : MatchKind) (lengths : List ℕ) → kind ≡ p.kind → lengths ≡ map length p.words → IsLayoutOf t p kind lengths
  layout-of kind lengths kind_is lengths_are = record {
    kind_is = kind_is;
    lengths_are = lengths_are;
    lists = λ word small. stands-lists (held_after p No word) (run_from t t.start word) (stands-word word small);
    dies = λ word small. stands-dies (held_after p No word) (run_from t t.start word) (stands-word word small);
    begins = λ word small same. stands-begins (held_after p No word) (run_from t t.start word) (stands-word word small) same;
    stands = λ word small. stands-there word small (held_after p No word) refl;
    none = stands-lists None 0 (0, sym (number-dead plan words planned filled done starts sound), refl);
    deepness = λ word small. stands-deep (held_after p No word) (run_from t t.start word) (stands-word word small);
  }

  -- ---- which have rows

  stands-held : (word : List ℕ) (sid : ℕ) → IsHeldIn t p No word sid → Stands (held_after p No word) sid
  stands-held word sid ((bytes, small, same), is) =
      subst (λ (o : Option (List ℕ)). Stands o sid) same
      (subst (λ (n : ℕ). Stands (held_after p No bytes) n) (stands-there bytes small (held_after p No word) same ∙ sym is) (stands-word bytes small))

  stands-row : (state : Option (List ℕ)) (sid : ℕ) → Stands state sid → is_row t sid ≡ not (nat_lt plan.row_depth (depth_of state))
  stands-row state sid (s, number, is) =
      let below = (of-state state s is).0 in
      let deeper : not (nat_lt plan.row_depth (depth_of state)) ≡ not (is_deep plan.row_depth (state_at plan.states s)) = ap (λ (n : ℕ). not (nat_lt plan.row_depth n)) (sym (as-deep state s is)) in
      elim (cases_Bool (is_deep plan.row_depth (state_at plan.states s))) [
        | inl deep ↦ ap (is_row t) number ∙ deep-test t (number_in plan s) (deep-of plan words planned filled done starts sound s below deep) ∙ sym (deeper ∙ ap not deep)
        | inr shallow ↦ ap (is_row t) number ∙ row-test t (number_in plan s) (row-of plan words planned filled done starts sound s below shallow) ∙ sym (deeper ∙ ap not shallow)
      ]

  stands-record : (state : Option (List ℕ)) (sid : ℕ) → Stands state sid → depth_below_rows t sid ≡ depth_of state - plan.row_depth
  stands-record state sid (s, number, is) =
      let below = (of-state state s is).0 in
      let depth = as-deep state s is in
      elim (cases_Bool (is_deep plan.row_depth (state_at plan.states s))) [
        | inl deep ↦ omega (arith, ap (depth_below_rows t) number, height-deep plan words planned filled done starts sound s below deep, depth)
        | inr shallow ↦ omega (arith, ap (depth_below_rows t) number, height-row plan words planned filled done starts sound s below shallow, row-shallow plan words planned filled done starts sound s shallow, depth)
      ]

  pub rows-down_to : HasRowsDownTo p plan.row_depth t
  rows-down_to = record {
    rows = λ word sid held. stands-row (held_after p No word) sid (stands-held word sid held);
    records = λ word sid held. stands-record (held_after p No word) sid (stands-held word sid held);
  }

  -- ---- which are marked

  -- a state of a word is neither FAIL nor the anchored start
  ordinary : (state : Option (List ℕ)) (s : ℕ) → IsStateOf names state s → (s ≢ 1) × (s ≢ plan.special.start_anchored_id)
  ordinary None s dead = (λ e. absurd (omega (arith, dead, e)), λ e. a.anchored.not_dead (sym e ∙ dead))
  ordinary (Some word) s named = (
    λ e. (let clash : None ≡ Some word = sym a.nodes.fail ∙ sym (ap (name_at names) e) ∙ named in cc),
    λ e. (let clash : None ≡ Some word = sym a.anchored.unnamed ∙ sym (ap (name_at names) e) ∙ named in cc),
  )

  module _ (empty skips : Bool) (order : IsInOrder empty skips plan.special (matches_in plan.states)) (none : matches_in plan.states 0 ≡ []) where
    abbrev Lists : ℕ → Type 0
    Lists s = 0 < length (matches_in plan.states s)

    own-source : (i : ℕ) → i ≢ 0 → i ≢ 1 → i ≢ plan.special.start_anchored_id → source_of plan i ≡ i
    own-source i alive not_fail not_anchored =
        cond-false {A = ℕ} (nat_eq i 0) 0 (cond (nat_eq i 1 || nat_eq i plan.special.start_anchored_id) start i) (ne_eqb i 0 alive)
        ∙ cond-false {A = ℕ} (nat_eq i 1 || nat_eq i plan.special.start_anchored_id) start i
        (ap (λ (b : Bool). b || nat_eq i plan.special.start_anchored_id) (ne_eqb i 1 not_fail) ∙ ne_eqb i plan.special.start_anchored_id not_anchored)

    -- what lists a pattern comes no later than the starts
    last-listing : (i : ℕ) → Lists (source_of plan i) → i ≤ plan.special.start_anchored_id
    last-listing i listing =
        elim (cases_lt plan.special.start_anchored_id i) [
          | inl past ↦
              let own = own-source i (omega (arith, past)) (omega (arith, past, order.next, order.first)) (omega (arith, past)) in
              absurd (omega (arith, listing, ap (λ (n : ℕ). length (matches_in plan.states n)) own, ap (λ (l : List ℕ). length l) (order.others i past)))
          | inr within ↦ within
        ]

    -- the starts list the same
    start-source : (i : ℕ) → start ≤ i → i ≤ plan.special.start_anchored_id → source_of plan i ≡ start
    start-source i from upto =
        elim (cases_eq i plan.special.start_anchored_id) [
          | inl anchored ↦
              cond-false {A = ℕ} (nat_eq i 0) 0 (cond (nat_eq i 1 || nat_eq i plan.special.start_anchored_id) start i) (ne_eqb i 0 (omega (arith, from, order.first)))
              ∙ cond-true {A = ℕ} (nat_eq i 1 || nat_eq i plan.special.start_anchored_id) start i (grind (arith, nat_tests))
          | inr other ↦ own-source i (omega (arith, from, order.first)) (omega (arith, from, order.first)) other ∙ omega (arith, from, upto, other, order.next)
        ]

    -- before a state that lists a pattern each one does, but for DEAD
    listing-before : (s i : ℕ) → s ≤ i → s ≢ 1 → s ≢ plan.special.start_anchored_id → Lists (source_of plan i) → (s ≡ 0) ⊎ Lists s
    listing-before s i upto not_fail not_anchored listing =
        let most = last-listing i listing in
        elim (cases_eq s 0) [
          | inl dead ↦ inl dead
          | inr alive ↦
              elim (cases_lt s start) [
                | inl below ↦ inr (order.listing s (omega (arith, alive, not_fail)) below)
                | inr past ↦
                    let is : s ≡ start = omega (arith, past, upto, most, not_anchored, order.next) in
                    inr (omega (arith, listing, ap (λ (n : ℕ). length (matches_in plan.states n)) (start-source i (omega (arith, past, upto)) most), ap (λ (n : ℕ). length (matches_in plan.states n)) is))
              ]
        ]

    listing-up-to : (state : Option (List ℕ)) (s i : ℕ) → IsStateOf names state s → s ≤ i → Lists (source_of plan i) → (s ≡ 0) ⊎ Lists s
    listing-up-to state s i is upto listing = let plain = ordinary state s is in listing-before s i upto plain.0 plain.1 listing

    -- the rows stand in the order of their states, and so do the records
    row-order : (s i : ℕ) → s < size → i < size → IsShallow plan s → IsShallow plan i → row_in plan s < row_in plan i + stride_of plan.classes → s ≤ i
    row-order s i below within shallow too less =
        elim (cases_lt i s) [
          | inl before ↦
              absurd
              (omega
              (arith, less, in-row (rows_below plan.row_depth plan.states i) (class_count plan.classes) (rows_below plan.row_depth plan.states s) (stride_of plan.classes) (row-before plan.row_depth plan.states i s before (omega (arith, below)) too) (omega arith)))
          | inr upto ↦ upto
        ]

    record-order : (s i : ℕ) → s < size → i < size → IsDeepState plan s → IsDeepState plan i → number_in plan s ≤ number_in plan i → s ≤ i
    record-order s i below within deep too less =
        elim (cases_lt i s) [
          | inl before ↦
              absurd
              (omega
              (arith, less, number-deep plan words planned filled done starts sound s below deep, number-deep plan words planned filled done starts sound i within too, deep-before plan.row_depth plan.states i s before (omega (arith, below)) too))
          | inr upto ↦ upto
        ]

    -- below its low number a state is dead or lists a pattern, and no other is
    row-marked : (state : Option (List ℕ)) (s : ℕ) → IsStateOf names state s → IsShallow plan s → number_in plan s < filled.list_low → (s ≡ 0) ⊎ Lists s
    row-marked state s is shallow less =
        let below = (of-state state s is).0 in
        let at = number-row plan words planned filled done starts sound s below shallow in
        elim done.lows.list_low [
          | inl first ↦ inl (eqb-true s 0 (sym (dead-apart s below) ∙ eq-eqb (number_in plan s) 0 (omega (arith, less, first))))
          | inr found ↦ listing-up-to state s found.0 is (row-order s found.0 below found.1.below shallow found.2 (omega (arith, less, at, found.3))) found.1.listing
        ]

    record-marked : (state : Option (List ℕ)) (s : ℕ) → IsStateOf names state s → IsDeepState plan s → number_in plan s < filled.deep_low → (s ≡ 0) ⊎ Lists s
    record-marked state s is deep less =
        let below = (of-state state s is).0 in
        elim done.lows.deep_low [
          | inl first ↦ absurd (omega (arith, less, first))
          | inr found ↦ listing-up-to state s found.0 is (record-order s found.0 below found.1.below deep found.2 (omega (arith, less, found.3))) found.1.listing
        ]

    row-unmarked : (state : Option (List ℕ)) (s : ℕ) → IsStateOf names state s → IsShallow plan s → filled.list_low ≤ number_in plan s → (s ≢ 0) × (length (matches_in plan.states s) ≡ 0)
    row-unmarked state s is shallow past =
        let below = (of-state state s is).0 in
        let at = number-row plan words planned filled done starts sound s below shallow in (
          λ e. absurd (omega (arith, past, done.rows.some, ap (number_in plan) e, number-dead plan words planned filled done starts sound)),
          ap (λ (n : ℕ). length (matches_in plan.states n)) (sym (own-place state s is)) ∙ ap (λ (l : List ℕ). length l) (done.rows.others s below shallow (omega (arith, past, at))),
        )

    record-unmarked : (state : Option (List ℕ)) (s : ℕ) → IsStateOf names state s → IsDeepState plan s → filled.deep_low ≤ number_in plan s → (s ≢ 0) × (length (matches_in plan.states s) ≡ 0)
    record-unmarked state s is deep past =
        let below = (of-state state s is).0 in (
          λ e. absurd (both_ways _ (subst (IsShallow plan) (sym e) (dead-shallow plan words planned filled done starts sound)) deep),
          ap (λ (n : ℕ). length (matches_in plan.states n)) (sym (own-place state s is)) ∙ ap (λ (l : List ℕ). length l) (done.records.others s below deep past),
        )

    -- and the start is below the first low number where a search may skip from it
    first-low : (state : Option (List ℕ)) (s : ℕ) → IsStateOf names state s → IsShallow plan s → number_in plan s < first_low plan → ((s ≡ 0) ⊎ Lists s) ⊎ ((plan.skips ≡ true) × (s ≡ start))
    first-low state s is shallow less =
        let below = (of-state state s is).0 in
        let plain = ordinary state s is in
        elim (cases_eq s 0) [
          | inl dead ↦ inl (inl dead)
          | inr alive ↦
              elim (cases_Bool plan.skips) [
                | inl skip ↦
                    let most : number_in plan s ≤ number_in plan start = omega (arith, less, cond-true plan.skips (number_in plan start + 1) 1 skip) in
                    let upto = row-order s start below starts.unanchored.state.0 shallow (root-shallow plan words planned filled done starts sound)
                    (omega (
                      arith,
                      most,
                      number-row plan words planned filled done starts sound s below shallow,
                      number-row plan words planned filled done starts sound start starts.unanchored.state.0 (root-shallow plan words planned filled done starts sound),
                    )) in
                    elim (cases_eq s start) [
                      | inl same ↦ inr (skip, same)
                      | inr other ↦ inl (inr (order.listing s (omega (arith, alive, plain.0)) (omega (arith, upto, other))))
                    ]
                | inr never ↦
                    inl (inl (eqb-true s 0 (sym (dead-apart s below) ∙ eq-eqb (number_in plan s) 0 (omega (arith, less, cond-false plan.skips (number_in plan start + 1) 1 never)))))
              ]
        ]

    -- ---- as it is told by numbers

    abbrev Marks : ℕ → Bool
    Marks s = nat_eq s 0 || nat_lt 0 (length (matches_in plan.states s))

    marks : (s : ℕ) → (s ≡ 0) ⊎ Lists s → Marks s ≡ true
    marks s (inl dead) = ap (λ (b : Bool). b || nat_lt 0 (length (matches_in plan.states s))) (eq-eqb s 0 dead)
    marks s (inr listing) =
        elim (cases_Bool (nat_eq s 0)) [
          | inl dead ↦ ap (λ (b : Bool). b || nat_lt 0 (length (matches_in plan.states s))) dead
          | inr alive ↦ ap (λ (b : Bool). b || nat_lt 0 (length (matches_in plan.states s))) alive ∙ lt-ltb 0 (length (matches_in plan.states s)) listing
        ]

    marks-not : (s : ℕ) → (s ≢ 0) × (length (matches_in plan.states s) ≡ 0) → Marks s ≡ false
    marks-not s (alive, empty_list) =
        ap (λ (b : Bool). b || nat_lt 0 (length (matches_in plan.states s))) (ne_eqb s 0 alive) ∙ le-ltb 0 (length (matches_in plan.states s)) (omega (arith, empty_list))

    row-test-of : (s : ℕ) → s < size → IsShallow plan s → is_row t (number_in plan s) ≡ true
    row-test-of s below shallow = row-test t (number_in plan s) (row-of plan words planned filled done starts sound s below shallow)

    deep-test-of : (s : ℕ) → s < size → IsDeepState plan s → is_row t (number_in plan s) ≡ false
    deep-test-of s below deep = deep-test t (number_in plan s) (deep-of plan words planned filled done starts sound s below deep)

    -- by a low number a state is below it or not
    by-low : (state : Option (List ℕ)) (s low : ℕ) → (number_in plan s < low → (s ≡ 0) ⊎ Lists s) → (low ≤ number_in plan s → (s ≢ 0) × (length (matches_in plan.states s) ≡ 0)) → nat_lt (number_in plan s) low ≡ Marks s
    by-low state s low below past =
        elim (cases_lt (number_in plan s) low) [
          | inl less ↦ lt-ltb (number_in plan s) low less ∙ sym (marks s (below less))
          | inr above ↦ le-ltb (number_in plan s) low above ∙ sym (marks-not s (past above))
        ]

    marked-is : (state : Option (List ℕ)) (s : ℕ) → IsStateOf names state s → is_marked_number t (number_in plan s) ≡ Marks s
    marked-is state s is =
        let below = (of-state state s is).0 in
        elim (cases_Bool (is_deep plan.row_depth (state_at plan.states s))) [
          | inl deep ↦
              cond-false (is_row t (number_in plan s)) (nat_lt (number_in plan s) t.list_low) (nat_lt (number_in plan s) t.deep_low) (deep-test-of s below deep)
              ∙ by-low state s filled.deep_low (record-marked state s is deep) (record-unmarked state s is deep)
          | inr shallow ↦
              cond-true (is_row t (number_in plan s)) (nat_lt (number_in plan s) t.list_low) (nat_lt (number_in plan s) t.deep_low) (row-test-of s below shallow)
              ∙ by-low state s filled.list_low (row-marked state s is shallow) (row-unmarked state s is shallow)
        ]

    -- ---- and whether it is special

    abbrev Special : ℕ → Bool
    Special s = nat_eq s 0 || (nat_lt 0 (length (matches_in plan.states s)) || (plan.skips && nat_eq s start))

    -- which is so if it is marked, and else if it is the start from which a search may skip
    special-marked : (s : ℕ) → Marks s ≡ true → Special s ≡ true
    special-marked s is =
        elim (cases_Bool (nat_eq s 0)) [
          | inl dead ↦ ap (λ (b : Bool). b || (nat_lt 0 (length (matches_in plan.states s)) || (plan.skips && nat_eq s start))) dead
          | inr alive ↦
              ap (λ (b : Bool). b || (nat_lt 0 (length (matches_in plan.states s)) || (plan.skips && nat_eq s start))) alive
              ∙ ap (λ (b : Bool). b || (plan.skips && nat_eq s start)) (sym (ap (λ (b : Bool). b || nat_lt 0 (length (matches_in plan.states s))) alive) ∙ is)
        ]

    special-unmarked : (s : ℕ) → (s ≢ 0) × (length (matches_in plan.states s) ≡ 0) → Special s ≡ (plan.skips && nat_eq s start)
    special-unmarked s (alive, empty_list) =
        ap (λ (b : Bool). b || (nat_lt 0 (length (matches_in plan.states s)) || (plan.skips && nat_eq s start))) (ne_eqb s 0 alive)
        ∙ ap (λ (b : Bool). b || (plan.skips && nat_eq s start)) (le-ltb 0 (length (matches_in plan.states s)) (omega (arith, empty_list)))

    skipping : (s : ℕ) → plan.skips ≡ true → s ≡ start → (plan.skips && nat_eq s start) ≡ true
    skipping s skip same = ap (λ (b : Bool). b && nat_eq s start) skip ∙ eq-eqb s start same

    not-skipping : (s : ℕ) → ((plan.skips ≡ true) → s ≢ start) → (plan.skips && nat_eq s start) ≡ false
    not-skipping s other =
        elim (cases_Bool plan.skips) [
          | inl skip ↦ ap (λ (b : Bool). b && nat_eq s start) skip ∙ ne_eqb s start (other skip)
          | inr never ↦ ap (λ (b : Bool). b && nat_eq s start) never
        ]

    -- a row below its low number
    row-special : (state : Option (List ℕ)) (s : ℕ) → IsStateOf names state s → IsShallow plan s → number_in plan s < filled.low → Special s ≡ true
    row-special state s is shallow less =
        elim (cases_lt (number_in plan s) filled.list_low) [
          | inl listed ↦ special-marked s (marks s (row-marked state s is shallow listed))
          | inr past ↦
              elim done.lows.low [
                | inr small ↦ absurd (omega (arith, less, past, small))
                | inl small ↦
                    elim (first-low state s is shallow (omega (arith, less, small))) [
                      | inl known ↦ special-marked s (marks s known)
                      | inr (skip, same) ↦ special-unmarked s (row-unmarked state s is shallow past) ∙ skipping s skip same
                    ]
              ]
        ]

    row-plain : (state : Option (List ℕ)) (s : ℕ) → IsStateOf names state s → IsShallow plan s → filled.low ≤ number_in plan s → Special s ≡ false
    row-plain state s is shallow past =
        special-unmarked s (row-unmarked state s is shallow (omega (arith, past, done.special)))
        ∙ not-skipping s (λ skip same. absurd (omega (arith, past, done.lows.first, cond-true plan.skips (number_in plan start + 1) 1 skip, ap (number_in plan) same)))

    -- a deep state is no start
    deep-special : (s : ℕ) → IsDeepState plan s → Special s ≡ Marks s
    deep-special s deep =
        let other : s ≢ start = λ e. absurd (both_ways _ (subst (IsShallow plan) (sym e) (root-shallow plan words planned filled done starts sound)) deep) in
        elim (cases_Bool (Marks s)) [
          | inl is ↦ special-marked s is ∙ sym is
          | inr is ↦
              elim (cases_eq s 0) [
                | inl dead ↦ absurd (both_ways _ is (marks s (inl dead)))
                | inr alive ↦
                    elim (cases_lt 0 (length (matches_in plan.states s))) [
                      | inl listing ↦ absurd (both_ways _ is (marks s (inr listing)))
                      | inr none_listed ↦ special-unmarked s (alive, omega (arith, none_listed)) ∙ not-skipping s (λ skip. other) ∙ sym is
                    ]
              ]
        ]

    special-is : (state : Option (List ℕ)) (s : ℕ) → IsStateOf names state s → is_special_number t (number_in plan s) ≡ Special s
    special-is state s is =
        let below = (of-state state s is).0 in
        elim (cases_Bool (is_deep plan.row_depth (state_at plan.states s))) [
          | inl deep ↦
              cond-false (is_row t (number_in plan s)) (nat_lt (number_in plan s) t.low) (nat_lt (number_in plan s) t.deep_low) (deep-test-of s below deep)
              ∙ by-low state s filled.deep_low (record-marked state s is deep) (record-unmarked state s is deep)
              ∙ sym (deep-special s deep)
          | inr shallow ↦
              cond-true (is_row t (number_in plan s)) (nat_lt (number_in plan s) t.low) (nat_lt (number_in plan s) t.deep_low) (row-test-of s below shallow)
              ∙ elim (cases_lt (number_in plan s) filled.low) [
                | inl less ↦ lt-ltb (number_in plan s) filled.low less ∙ sym (row-special state s is shallow less)
                | inr past ↦ le-ltb (number_in plan s) filled.low past ∙ sym (row-plain state s is shallow past)
              ]
        ]

    -- ---- so it is of the states that are held

    start-apart : (s : ℕ) → s < size → nat_eq (number_in plan s) t.start ≡ nat_eq s start
    start-apart s below =
        elim (cases_eq s start) [
          | inl same ↦ eq-eqb (number_in plan s) t.start (ap (number_in plan) same) ∙ sym (eq-eqb s start same)
          | inr other ↦
              ne_eqb (number_in plan s) t.start (λ e. other (apart s start below starts.unanchored.state.0 (root-shallow plan words planned filled done starts sound) e))
              ∙ sym (ne_eqb s start other)
        ]

    pub marked-in : AreMarkedIn plan.skips p t
    marked-in = record {
      special = λ word sid held. held-special (held_after p No word) sid (stands-held word sid held);
      marked = λ word sid held. held-marked (held_after p No word) sid (stands-held word sid held);
    }
      where
        dies : (s sid : ℕ) → s < size → sid ≡ number_in plan s → nat_eq sid 0 ≡ nat_eq s 0
        dies s sid below number = ap (λ (n : ℕ). nat_eq n 0) number ∙ dead-apart s below

        listed : (state : Option (List ℕ)) (s sid : ℕ) → IsStateOf names state s → sid ≡ number_in plan s → length (list_in t sid) ≡ length (matches_in plan.states s)
        listed state s sid is number = ap (λ (n : ℕ). length (list_in t n)) number ∙ ap (λ (l : List ℕ). length l) (lists-own s (of-state state s is).0 (own-place state s is))

        held-marked : (state : Option (List ℕ)) (sid : ℕ) → Stands state sid → is_marked_number t sid ≡ (nat_eq sid 0 || nat_lt 0 (length (list_in t sid)))
        held-marked state sid (s, number, is) =
            ap (is_marked_number t) number
            ∙ marked-is state s is
            ∙ sym
            (ap (λ (b : Bool). b || nat_lt 0 (length (list_in t sid))) (dies s sid (of-state state s is).0 number)
            ∙ ap (λ (n : ℕ). nat_eq s 0 || nat_lt 0 n) (listed state s sid is number))

        held-special : (state : Option (List ℕ)) (sid : ℕ) → Stands state sid
            → is_special_number t sid ≡ (nat_eq sid 0 || (nat_lt 0 (length (list_in t sid)) || (plan.skips && nat_eq sid t.start)))
        held-special state sid (s, number, is) =
            ap (is_special_number t) number
            ∙ special-is state s is
            ∙ sym
            (ap (λ (b : Bool). b || (nat_lt 0 (length (list_in t sid)) || (plan.skips && nat_eq sid t.start))) (dies s sid (of-state state s is).0 number)
            ∙ ap (λ (n : ℕ). nat_eq s 0 || (nat_lt 0 n || (plan.skips && nat_eq sid t.start))) (listed state s sid is number)
            ∙ ap (λ (b : Bool). nat_eq s 0 || (nat_lt 0 (length (matches_in plan.states s)) || (plan.skips && b))) (ap (λ (n : ℕ). nat_eq n t.start) number ∙ start-apart s (of-state state s is).0))

-- A walk from line to line writes the lines that are near selected ones.
use Rattle.acgrep.proofs.Common.{Context, Job, Patterns, Place, cases_Bool, cases_lt, common_steps, eqb-true, get_or, lt-ltb, ltb-true, true≢false}
use Rattle.std.proofs.Common.{◌++◌, ◌+◌, ◌-◌, ◌<◌, ◌==◌, ◌∙◌, ◌∷◌, ◌≡◌, ◌≤◌, ◌⊎◌, Bool, List, [], ap, append_assoc, arith, false, inl, inr, length, length-append, refl, subst, suc, sym, true, zero, ℕ}
use Rattle.std.proofs.Math.Bool.{and-false}
use Rattle.std.proofs.lemmas.Bool.{leb-false, leb-true, ltb-false, or_cases, or_left, or_right}
use Rattle.std.specs.Prelude.{◌&&◌, ◌||◌, map, nat_le, nat_lt}
use Rattle.acgrep.specs.Contexts.{AreChosen, Holding, IsNearChosen, IsNotChosen, ShowsEach, Steps, TakesLine, TellsAround, TellsWritten, Walk, WalksOver, behind_chosen, behind_due, behind_passed, beside, first_in, holding, holding_of, separator_if, walk_holding, with_line}
use Rattle.acgrep.specs.Written.{ShowsLine, after_line, after_lines}
use Rattle.acgrep.proofs.Tellings.{after_append}
use Rattle.acgrep.proofs.Walking.{moved}

-- one mark for each of some lines
abbrev pub marks : Bool → List (List ℕ) → List Bool
marks mark ls = map (λ line. mark) ls

marks_more : (ls : List (List ℕ)) (line : List ℕ) (chosen : List Bool) → marks false (ls ++ (line ∷ [])) ++ chosen ≡ marks false ls ++ (false ∷ chosen)
marks_more ls line chosen = moved (λ line. false) ls line chosen

-- the first behind lines that are not selected
marked : (ls : List (List ℕ)) (more : List Bool) → get_or (marks false ls ++ (true ∷ more)) (length ls) false ≡ true
marked [] more = refl
marked (line ∷ rest) more = marked rest more

-- one of some marks is set, or of so many behind it
abbrev soon : ℕ → List Bool → Bool
soon n [] = false
soon n (true ∷ chosen) = true
soon zero (false ∷ chosen) = false
soon (suc n) (false ∷ chosen) = soon n chosen

soon_at : (n : ℕ) (chosen : List Bool) → soon n chosen ≡ true → (at : ℕ) × (at ≤ n) × (get_or chosen at false ≡ true)
soon_at n (true ∷ chosen) is = (0, omega arith, refl)
soon_at (suc n) (false ∷ chosen) is = let (at, low, there) = soon_at n chosen is in (suc at, omega (arith, low), there)
soon_at _ _ is = absurd (true≢false (sym is))

soon_from : (n : ℕ) (chosen : List Bool) (at : ℕ) → at ≤ n → get_or chosen at false ≡ true → soon n chosen ≡ true
soon_from n (true ∷ chosen) at low is = refl
soon_from zero (false ∷ chosen) (suc at) low is = absurd (omega (arith, low))
soon_from (suc n) (false ∷ chosen) (suc at) low is = soon_from n chosen at (omega (arith, low)) is
soon_from _ _ _ low is = absurd (true≢false (sym is))

-- none is where so many lines are not selected, or no others
soon_none : (n : ℕ) (ls : List (List ℕ)) (more : List Bool) → (n < length ls) ⊎ (more ≡ []) → soon n (marks false ls ++ more) ≡ false
soon_none n [] more (inl low) = absurd (omega (arith, low))
soon_none n [] more (inr none) = rw none refl
soon_none zero (line ∷ rest) more far = refl
soon_none (suc n) (line ∷ rest) more (inl low) = soon_none n rest more (inl (omega (arith, low)))
soon_none (suc n) (line ∷ rest) more (inr none) = soon_none n rest more (inr none)

first_more : (place first : Place) (ls : List (List ℕ)) (line : List ℕ) → first_in place first (ls ++ (line ∷ [])) ≡ first
first_more place first [] line = refl
first_more place first (other ∷ rest) line = refl

first_same : (place first : Place) (ls : List (List ℕ)) → after_lines first ls ≡ place → first_in place first ls ≡ first
first_same place first [] is = sym is
first_same place first (line ∷ rest) is = refl

no_room : (n : ℕ) → (n == 0) ≡ false → nat_le n 0 ≡ false
no_room n some = grind (arith, common_steps)

some_more : (n : ℕ) → (n == 0) ≡ false → 0 < n
some_more n some = grind (arith, common_steps)

-- where so many lines are due, a line is near too where it is among the first of them
abbrev IsNear : Context → ℕ → List Bool → ℕ → Type 0
IsNear context due chosen i = (i < due) ⊎ IsNearChosen context chosen i

module _ (context : Context) where
  -- which lines are written by which are selected
  abbrev written_by : ℕ → List Bool → List Bool
  written_by due [] = []
  written_by due (true ∷ chosen) = true ∷ written_by context.after chosen
  written_by due (false ∷ chosen) = (nat_lt 0 due || soon context.before (false ∷ chosen)) ∷ written_by (due - 1) chosen

  as_many : (due : ℕ) (chosen : List Bool) → length (written_by due chosen) ≡ length chosen
  as_many due [] = refl
  as_many due (true ∷ chosen) = ap suc (as_many context.after chosen)
  as_many due (false ∷ chosen) = ap suc (as_many (due - 1) chosen)

  near_more : (mark : Bool) (chosen : List Bool) (i : ℕ) → IsNearChosen context chosen i → IsNearChosen context (mark ∷ chosen) (suc i)
  near_more mark chosen i near = record { at = suc near.at; is = near.is; before = omega (arith, near.before); behind = omega (arith, near.behind) }

  near_first : (chosen : List Bool) (i : ℕ) → i ≤ context.after → IsNearChosen context (true ∷ chosen) i
  near_first chosen i low = record { at = 0; is = refl; before = omega arith; behind = omega (arith, low) }

  -- those that are written are near
  is_near : (due : ℕ) (chosen : List Bool) (i : ℕ) → get_or (written_by due chosen) i false ≡ true → IsNear context due chosen i
  is_near due [] i is = absurd (true≢false (sym is))
  is_near due (true ∷ chosen) zero is = inr (near_first chosen 0 (omega arith))
  is_near due (true ∷ chosen) (suc i) is =
      elim (is_near context.after chosen i is) [ inl low ↦ inr (near_first chosen (suc i) (omega (arith, low))) | inr one ↦ inr (near_more true chosen i one) ]
  is_near due (false ∷ chosen) zero is = elim (or_cases _ _ is) [
    | inl some ↦ inl (ltb-true 0 due some)
    | inr ahead ↦ let (at, low, there) = soon_at context.before (false ∷ chosen) ahead in inr (record { at = at; is = there; before = omega (arith, low); behind = omega arith })
  ]
  is_near due (false ∷ chosen) (suc i) is = elim (is_near (due - 1) chosen i is) [ inl low ↦ inl (omega (arith, low)) | inr one ↦ inr (near_more false chosen i one) ]

  -- and all that are near are written
  near_behind : (mark : Bool) (chosen : List Bool) (i at : ℕ) → get_or (mark ∷ chosen) at false ≡ true → at ≤ suc i + context.before → suc i ≤ at + context.after
      → ((mark ≡ true) × (i < context.after)) ⊎ IsNearChosen context chosen i
  near_behind mark chosen i zero is before behind = inl (is, omega (arith, behind))
  near_behind mark chosen i (suc at) is before behind = inr (record { at = at; is = is; before = omega (arith, before); behind = omega (arith, behind) })

  is_written : (due : ℕ) (chosen : List Bool) (i : ℕ) → due ≤ context.after → i < length chosen → IsNear context due chosen i → get_or (written_by due chosen) i false ≡ true
  is_written due [] i most within near = absurd (omega (arith, within))
  is_written due (true ∷ chosen) zero most within near = refl
  is_written due (true ∷ chosen) (suc i) most within (inl low) = is_written context.after chosen i (omega arith) (omega (arith, within)) (inl (omega (arith, low, most)))
  is_written due (true ∷ chosen) (suc i) most within (inr one) =
      is_written context.after chosen i (omega arith) (omega (arith, within)) (elim (near_behind true chosen i one.at one.is one.before one.behind) [ inl here ↦ inl here.1 | inr near ↦ inr near ])
  is_written due (false ∷ chosen) zero most within (inl low) = or_left _ _ (lt-ltb 0 due low)
  is_written due (false ∷ chosen) zero most within (inr one) = or_right _ _ (soon_from context.before (false ∷ chosen) one.at (omega (arith, one.before)) one.is)
  is_written due (false ∷ chosen) (suc i) most within (inl low) = is_written (due - 1) chosen i (omega (arith, most)) (omega (arith, within)) (inl (omega (arith, low)))
  is_written due (false ∷ chosen) (suc i) most within (inr one) =
      elim (near_behind false chosen i one.at one.is one.before one.behind) [
        | inl here ↦ absurd (true≢false (sym here.0))
        | inr near ↦ is_written (due - 1) chosen i (omega (arith, most)) (omega (arith, within)) (inr near)
      ]

  -- a selected line with the held ones before it
  written_group : (due : ℕ) (held : List (List ℕ)) (chosen : List Bool) → length held ≤ context.before
      → written_by due (marks false held ++ (true ∷ chosen)) ≡ marks true held ++ (true ∷ written_by context.after chosen)
  written_group due [] chosen within = refl
  written_group due (line ∷ rest) chosen within =
      rw (or_right (nat_lt 0 due) _ (soon_from context.before (marks false (line ∷ rest) ++ (true ∷ chosen)) (suc (length rest)) within (marked rest chosen)))
      (ap (λ (l : List Bool). true ∷ l) (written_group (due - 1) rest chosen (omega (arith, within))))

module _ (p : Patterns) (job : Job) (context : Context) where
  -- nothing is written of lines that are not
  tells_none : (due : ℕ) (held : List (List ℕ)) (place : Place) (some apart : Bool) → (0 < due → held ≡ []) → TellsWritten p job context place some apart (held ++ []) (marks false held ++ []) (written_by context due (marks false held ++ [])) []
  tells_none due [] place some apart none = refl
  tells_none due (line ∷ rest) place some apart none =
      let past : due ≡ 0 = elim (cases_lt 0 due) [ inl some ↦ absurd (omega (arith, ap length (none some))) | inr none ↦ omega (arith, none) ] in
      rw (past, soon_none context.before (line ∷ rest) [] (inr refl)) (tells_none 0 rest (after_line place line) some true (λ some. absurd (omega (arith, some))))

  -- a selected line with the held ones before it
  tells_group : (held : List (List ℕ)) (place : Place) (some apart : Bool) (before shown more : List ℕ) (line : List ℕ) (rest : List (List ℕ)) (chosen written : List Bool)
      → ShowsEach p (beside job) place held before → ShowsLine p job (after_lines place held) line shown
      → TellsWritten p job context (after_line (after_lines place held) line) true false rest chosen written more
      → TellsWritten p job context place some apart (held ++ (line ∷ rest)) (marks false held ++ (true ∷ chosen)) (marks true held ++ (true ∷ written))
      (separator_if (context.parted && (some && apart)) job.style ++ (before ++ (shown ++ more)))
  tells_group [] place some apart before shown more line rest chosen written none shows tells =
      (shown, more, shows, tells, ap (λ (l : List ℕ). separator_if (context.parted && (some && apart)) job.style ++ (l ++ (shown ++ more))) none)
  tells_group (first ∷ others) place some apart before shown more line rest chosen written (one, next, is_shown, each, is) shows tells =
      let IH = tells_group others (after_line place first) true false next shown more line rest chosen written each shows tells in (
        one,
        next ++ (shown ++ more),
        is_shown,
        rw (and-false context.parted) at IH,
        ap (λ (l : List ℕ). separator_if (context.parted && (some && apart)) job.style ++ l) (ap (λ (l : List ℕ). l ++ (shown ++ more)) is ∙ append_assoc one next (shown ++ more)),
      )

-- two walks are the same where their parts are
pub walk_same : (a b : Walk) → a.place ≡ b.place → a.selected ≡ b.selected → a.due ≡ b.due → a.some ≡ b.some → a.apart ≡ b.apart → a.first ≡ b.first → a.held ≡ b.held → a ≡ b
walk_same a b place selected due some apart first held = grind (arith, common_steps)

-- what a walk keeps: held lines stand before its place, and none is held while some are due
pub record IsKept (context : Context) (w : Walk) : Type 0 where
  pub within : length w.held ≤ context.before
  pub none : 0 < w.due → w.held ≡ []
  pub joined : 0 < w.due → (w.some ≡ true) × (w.apart ≡ false)
  pub placed : after_lines (first_in w.place w.first w.held) w.held ≡ w.place

-- what is told of the held lines and of those behind them
pub record Grouped (p : Patterns) (job : Job) (context : Context) (w : Walk) (ls : List (List ℕ)) (bytes : List ℕ) (total : ℕ) : Type 0 where
  pub chosen : List Bool
  pub are_chosen : AreChosen p job w.selected ls chosen total
  pub tells : TellsWritten p job context (first_in w.place w.first w.held) w.some w.apart (w.held ++ ls) (marks false w.held ++ chosen) (written_by context w.due (marks false w.held ++ chosen)) bytes

-- what is held, put together
abbrev held_as : Bool → Place → List (List ℕ) → Holding
held_as apart first held = record { apart = apart; first = first; held = held }

-- a line that is passed over is held; where that is one more than may be, the first is not
by_holding : (most : ℕ) (place : Place) (apart : Bool) (first : Place) (held : List (List ℕ)) (line : List ℕ) (Q : Holding → Type 0) → length held ≤ most
    → after_lines (first_in place first held) held ≡ place
    → (length held < most → Q (with_line place (held_as apart first held) line))
    → ((start : Place) (other : List ℕ) (others : List (List ℕ)) → held ++ (line ∷ []) ≡ other ∷ others → length others ≡ most
    → first_in (after_line place line) start others ≡ after_line (first_in place first held) other → Q (held_as true start others))
    → Q (holding most place (held_as apart first held) line)
by_holding most place apart first [] line Q within placed more full =
    elim (cases_Bool (most == 0)) [
      | inl none ↦ rw none (full first line [] refl (sym (eqb-true most 0 none)) refl)
      | inr some ↦ rw some (rw (no_room most some) (more (some_more most some)))
    ]
by_holding most place apart first (other ∷ others) line Q within placed more full =
    elim (cases_Bool (most == 0)) [
      | inl none ↦ absurd (omega (arith, within, eqb-true most 0 none))
      | inr some ↦ elim (cases_Bool (nat_le most (length (other ∷ others)))) [
        | inl long ↦
            let second = first_in place (after_line first other) others in
            rw some (rw long (full second other (others ++ (line ∷ [])) refl (omega (arith, within, leb-true most (length (other ∷ others)) long, length-append others (line ∷ [])))
            (first_more (after_line place line) second others line ∙ first_same place (after_line first other) others placed)))
        | inr room ↦ rw some (rw room (more (leb-false most (length (other ∷ others)) room)))
      ]
    ]

-- behind a line that was not due, where none is
kept_idle : (context : Context) (w : Walk) (place : Place) → w.due ≡ 0 → (h : Holding) → length h.held ≤ context.before → after_lines (first_in place h.first h.held) h.held ≡ place
    → IsKept context (walk_holding w place h)
kept_idle context w place past h within placed =
    record { within = within; none = λ due. absurd (omega (arith, due, past)); joined = λ due. absurd (omega (arith, due, past)); placed = placed }

module _ (p : Patterns) (job : Job) (context : Context) where
  each_start : (held : List (List ℕ)) (place first : Place) (before : List ℕ) → ShowsEach p (beside job) first held before → ShowsEach p (beside job) (first_in place first held) held before
  each_start [] place first before each = each
  each_start (line ∷ rest) place first before each = each

  module _ (w : Walk) (line : List ℕ) (rest : List (List ℕ)) where
    -- one line more: a selected one
    group_chosen : (shown more : List ℕ) (w' : Walk) (total : ℕ) → IsKept context w → TakesLine p job context w line shown w'
        → Grouped p job context (behind_chosen context w line) rest more total → Grouped p job context w (line ∷ rest) (shown ++ more) total
    group_chosen shown more w' total kept takes IH =
        let (before, one, each, shows, cut) = takes.shows in
        let start = first_in w.place w.first w.held in
        let sep = separator_if (context.parted && (w.some && w.apart)) job.style in
        let bytes : sep ++ (before ++ (one ++ more)) ≡ shown ++ more =
        sym (ap (λ (l : List ℕ). l ++ more) cut ∙ append_assoc sep (before ++ one) more ∙ ap (λ (l : List ℕ). sep ++ l) (append_assoc before one more)) in
        record {
          chosen = true ∷ IH.chosen;
          are_chosen = (takes.more, takes.selected, IH.are_chosen);
          tells = rw (written_group context w.due w.held IH.chosen kept.within, sym bytes) (tells_group p job context w.held start w.some w.apart before one more line rest IH.chosen
              (written_by context context.after IH.chosen) (each_start w.held w.place w.first before each) (rw kept.placed shows) (rw kept.placed IH.tells));
        }

    -- one that is due
    group_due : (shown more : List ℕ) (total : ℕ) → IsKept context w → 0 < w.due → IsNotChosen p job w.selected line → ShowsLine p (beside job) w.place line shown
        → Grouped p job context (behind_due w line) rest more total → Grouped p job context w (line ∷ rest) (shown ++ more) total
    group_due shown more total kept due passed shows IH =
        let none = kept.none due in
        let (is_some, is_joined) = kept.joined due in
        let unparted : separator_if (context.parted && (w.some && w.apart)) job.style ≡ [] = rw (is_joined, and-false w.some, and-false context.parted) refl in
        record {
          chosen = false ∷ IH.chosen;
          are_chosen = (passed, IH.are_chosen);
          tells = rw (none, lt-ltb 0 w.due due) (shown, more, shows, rw (is_some, is_joined) at (rw none at IH.tells), ap (λ (l : List ℕ). l ++ (shown ++ more)) (sym unparted));
        }

    -- one that is held
    group_held : (more : List ℕ) (total : ℕ) → IsNotChosen p job w.selected line
        → Grouped p job context (walk_holding w (after_line w.place line) (with_line w.place (holding_of w) line)) rest more total → Grouped p job context w (line ∷ rest) more total
    group_held more total passed IH = record {
      chosen = false ∷ IH.chosen;
      are_chosen = (passed, IH.are_chosen);
      tells = rw (first_more (after_line w.place line) (first_in w.place w.first w.held) w.held line) at (rw (marks_more w.held line IH.chosen) at (rw (append_assoc w.held (line ∷ []) rest) at IH.tells));
    }

    -- one that was held is not near
    group_dropped : (place first start : Place) (apart : Bool) (other : List ℕ) (others : List (List ℕ)) (more : List ℕ) (total : ℕ) → w.due ≡ 0 → context.before ≤ length others
        → first_in place start others ≡ after_line first other → Grouped p job context (walk_holding w place (held_as true start others)) rest more total
        → Grouped p job context (walk_holding w place (held_as apart first (other ∷ others))) rest more total
    group_dropped place first start apart other others more total past long starts IH = record {
      chosen = IH.chosen;
      are_chosen = IH.are_chosen;
      tells = rw (past, soon_none context.before (other ∷ others) IH.chosen (inl (omega (arith, long)))) (rw (starts, past) at IH.tells);
    }

    -- one that is not selected where none is due
    group_passed : (more : List ℕ) (total : ℕ) → IsKept context w → w.due ≡ 0 → IsNotChosen p job w.selected line
        → (IsKept context (behind_passed context w line) → Grouped p job context (behind_passed context w line) rest more total) → Grouped p job context w (line ∷ rest) more total
    group_passed more total kept past passed =
        let next = after_line w.place line in
        let start = first_in w.place w.first w.held in
        let joined : after_lines start (w.held ++ (line ∷ [])) ≡ next = after_append w.held (line ∷ []) start ∙ ap (λ (at : Place). after_line at line) kept.placed in
        by_holding context.before w.place w.apart w.first w.held line
        (λ (h : Holding). (IsKept context (walk_holding w next h) → Grouped p job context (walk_holding w next h) rest more total) → Grouped p job context w (line ∷ rest) more total) kept.within kept.placed
        (λ room IH. group_held more total passed (IH (kept_idle context w next past (with_line w.place (holding_of w) line) (omega (arith, room, length-append w.held (line ∷ [])))
        (ap (λ (at : Place). after_lines at (w.held ++ (line ∷ []))) (first_more next start w.held line) ∙ joined))))
        (λ first other others is full starts IH. group_held more total passed
        (subst (λ (l : List (List ℕ)). Grouped p job context (walk_holding w next (held_as w.apart start l)) rest more total) (sym is)
        (group_dropped next start first w.apart other others more total past (omega (arith, full)) starts
        (IH (kept_idle context w next past (held_as true first others) (omega (arith, full))
        (ap (λ (at : Place). after_lines at others) starts ∙ ap (after_lines start) (sym is) ∙ joined))))))

  group_step : (w w' : Walk) (line : List ℕ) (rest : List (List ℕ)) (shown more : List ℕ) (total : ℕ) → IsKept context w → Steps p job context w line shown w'
      → (IsKept context w' → Grouped p job context w' rest more total) → Grouped p job context w (line ∷ rest) (shown ++ more) total
  group_step w w' line rest shown more total kept (inl takes) others =
      group_chosen w line rest shown more w' total kept takes ((rw takes.behind at others) (record { within = omega arith; none = λ due. refl; joined = λ due. (refl, refl); placed = refl }))
  group_step w w' line rest shown more total kept (inr passes) others =
      elim (cases_Bool (nat_lt 0 w.due)) [
        | inl is_due ↦
            let due : 0 < w.due = ltb-true 0 w.due is_due in
            let (shows, behind) = rw is_due at passes.passes in
            group_due w line rest shown more total kept due passes.passed shows
            ((rw behind at others) (record { within = kept.within; none = λ _. kept.none due; joined = λ _. kept.joined due; placed = rw (kept.none due) refl }))
        | inr not_due ↦
            let (none, behind) = rw not_due at passes.passes in
            rw none (group_passed w line rest more total kept (omega (arith, ltb-false 0 w.due not_due)) passes.passed (rw behind at others))
      ]

  -- what is told of a walk
  grouped : (ls : List (List ℕ)) (w w' : Walk) (bytes : List ℕ) → IsKept context w → WalksOver p job context w ls bytes w' → Grouped p job context w ls bytes w'.selected
  grouped [] w w' bytes kept (empty, same) = record {
    chosen = [];
    are_chosen = ap (λ (v : Walk). v.selected) same;
    tells = rw empty (tells_none p job context w.due w.held (first_in w.place w.first w.held) w.some w.apart kept.none);
  }
  grouped (line ∷ rest) w w' bytes kept (shown, more, between, step, walks, is) =
      rw is (group_step w between line rest shown more w'.selected kept step (λ next. grouped rest between w' more next walks))

  -- what is told of a walk over a whole file
  pub told_around : (ls : List (List ℕ)) (w w' : Walk) (bytes : List ℕ) → w.place ≡ job.first → w.selected ≡ 0 → w.due ≡ 0 → w.some ≡ job.follows → w.apart ≡ true → w.held ≡ []
      → WalksOver p job context w ls bytes w' → TellsAround p job context ls bytes w'.selected
  told_around ls w w' bytes place selected due some apart held walks =
      let start : Walk = record { place = job.first; selected = 0; due = 0; some = job.follows; apart = true; first = w.first; held = [] } in
      let same = walk_same w start place selected due some apart refl held in
      let kept : IsKept context start =
      record { within = omega arith; none = λ _. refl; joined = λ one. absurd (omega (arith, one)); placed = refl } in
      let all = grouped ls start w' bytes kept (subst (λ (v : Walk). WalksOver p job context v ls bytes w') same walks) in
      record {
        chosen = all.chosen;
        written = written_by context 0 all.chosen;
        are_chosen = all.are_chosen;
        are_written = record {
          as_many = as_many context 0 all.chosen;
          near = λ i is. elim (is_near context 0 all.chosen i is) [ inl low ↦ absurd (omega (arith, low)) | inr near ↦ near ];
          all = λ i low near. is_written context 0 all.chosen i (omega arith) low (inr near);
        };
        tells = all.tells;
      }

-- Files that are searched one after another.
use Rattle.acgrep.proofs.Common.{Keeps, Keeps-refl, Nothing, Outcome, Seen, Shown, cases_Bool, common_steps, get_or, or-false}
use Rattle.std.proofs.Common.{◌-◌, ◌<◌, ◌∙◌, ◌∷◌, ◌≡◌, ◌⊎◌, Bool, List, Option, [], ap, arith, drop, false, inl, inr, length, refl, subst, sym, take, true, ℕ}
use Rattle.std.proofs.KnownBytes.{Keeps-trans}
use Rattle.std.proofs.Math.Bool.{or-true, or_assoc}
use Rattle.std.specs.Prelude.{◌||◌, Vec, if◌then◌else◌, map}
use Rattle.tool_parts.specs.Answers.{status_of}
use Rattle.acgrep.specs.InTurn.{AreBegun, AreDone, AreDoneOr, AreSeen, FileWork, HasOne, IfBroken, IfSearched, is_enough, nothing_seen, seen_after, status_by}
use Rattle.acgrep.specs.Listed.{listed_bytes}
use Rattle.acgrep.specs.declared.files.Outcome.TheVariants.{Searched}
use Rattle.acgrep.proofs.Bools.{either_way}

-- what follows where a file was searched
pub if_searched : (outcome : Outcome) (P Q : Bool → Type 0) → ((any : Bool) → P any → Q any) → IfSearched outcome P → IfSearched outcome Q
if_searched outcome P Q follows is = grind (arith, common_steps)

-- what holds whatever the outcome
pub on_broken : {P : Type 0} (outcome : Outcome) → P → IfBroken outcome P
on_broken outcome holds = grind (arith, common_steps)

pub if_broken : {P Q : Type 0} (outcome : Outcome) → (P → Q) → IfBroken outcome P → IfBroken outcome Q
if_broken outcome follows broken = grind (arith, common_steps)

-- a selected line is enough only under `-q`
pub enough_only : (shown : Shown) (any : Bool) → is_enough shown any ≡ true → (shown ≡ Nothing) × (any ≡ true)
enough_only Nothing any is = (refl, is)
enough_only _ any is = absurd (cc)

status_clean : (shown : Shown) (any : Bool) → (if is_enough shown any then 0 else (if any then 0 else 1)) ≡ status_of any
status_clean shown true = elim (cases_Bool (is_enough shown true)) [ inl enough ↦ rw enough refl | inr not ↦ rw not refl ]
status_clean shown false = elim (cases_Bool (is_enough shown false)) [ inl enough ↦ let clash = (enough_only shown false enough).1 in absurd (cc) | inr not ↦ rw not refl ]

module _ {S : Type 0} (work : FileWork S) (shown : Shown) where
  module _ (names : List (List ℕ)) (begin : S) (held₀ : Option (List ℕ)) where
    -- the files before those of `rest` were searched
    pub record SoFar (rest : List (List ℕ)) (left : S) (held : Option (List ℕ)) (seen : Seen) : Type 0 where
      pub ended : seen.failed ≡ false → seen.ended ≡ true → AreDone work shown false names begin left held₀ held true × (seen.selected ≡ true)
      pub on : seen.failed ≡ false → seen.ended ≡ false → (left' : S) (held' : Option (List ℕ)) (any : Bool) → AreDone work shown seen.selected rest left left' held held' any
          → AreDone work shown false names begin left' held₀ held' (seen.selected || any)
      pub finds : HasOne work rest left → HasOne work names begin
      pub found : shown ≡ Nothing → seen.selected ≡ true → HasOne work names begin
      pub begun : (held' : Option (List ℕ)) → AreBegun work seen.selected rest left held held' → AreBegun work false names begin held₀ held'

    -- one file more
    pub so_far_step : (name : List ℕ) (rest : List (List ℕ)) (left left' : S) (held held' : Option (List ℕ)) (seen : Seen) (outcome : Outcome) → seen.ended ≡ false
        → SoFar (name ∷ rest) left held seen → work.Leaves name left left' → IfSearched outcome (work.Does seen.selected name left left' held held')
        → IfBroken outcome (work.Begins seen.selected name left held held') → (work.Does seen.selected name left left' held held' true → work.Has name left)
        → SoFar rest left' held' (seen_after shown seen outcome)
    so_far_step name rest left left' held held' seen (Searched first) goes so_far leaves searched broken has = record {
      ended = λ clean ends.
          let enough : is_enough shown first ≡ true = subst (λ (b : Bool). (b || is_enough shown first) ≡ true) goes ends in
          let only = enough_only shown first enough in (
            subst (AreDone work shown false names begin left' held₀ held') (or-true seen.selected)
                (so_far.on clean goes left' held' true (left', held', first, searched, rw enough (refl, Keeps-refl held', refl))),
            ap (λ (b : Bool). seen.selected || b) only.1 ∙ or-true seen.selected,
          );
      on = λ clean next left'' held'' others more.
          let enough : is_enough shown first ≡ false = subst (λ (b : Bool). (b || is_enough shown first) ≡ false) goes next in
          subst (AreDone work shown false names begin left'' held₀ held'') (sym (or_assoc seen.selected first others))
          (so_far.on clean goes left'' held'' (first || others) (left', held', first, searched, rw enough (others, more, refl)));
      finds = λ one. so_far.finds (inr (left', leaves, one));
      found = λ quiet is.
          elim (cases_Bool seen.selected) [
            | inl before ↦ so_far.found quiet before
            | inr not ↦
                let here : first ≡ true = subst (λ (b : Bool). (b || first) ≡ true) not is in
                so_far.finds (inl (has (subst (work.Does seen.selected name left left' held held') here searched)))
          ];
      begun = λ held'' more. so_far.begun held'' (inr (left', held', leaves, inl (first, searched, more)));
    }
    so_far_step name rest left left' held held' seen _ goes so_far leaves searched broken has = record {
      ended = λ clean ends. absurd (cc);
      on = λ clean next left'' held'' others more. absurd (cc);
      finds = λ one. so_far.finds (inr (left', leaves, one));
      found = so_far.found;
      begun = λ held'' more. so_far.begun held'' (inr (left', held', leaves, inr (broken, more)));
    }

  -- nothing is written
  pub begun_none : (follows : Bool) (names : List (List ℕ)) (left : S) (held held' : Option (List ℕ)) → Keeps held held' → AreBegun work follows names left held held'
  begun_none follows [] left held held' keeps = keeps
  begun_none follows (name ∷ names) left held held' keeps = inl keeps

  -- before the first
  pub so_far_start : (names : List (List ℕ)) (left : S) (held : Option (List ℕ)) → SoFar names left held names left held nothing_seen
  so_far_start names left held = record {
    ended = λ clean ends. absurd (cc);
    on = λ clean next left' held' any done. done;
    finds = λ one. one;
    found = λ quiet is. absurd (cc);
    begun = λ held' more. more;
  }

  module _ (names : List (List ℕ)) (begin left : S) (held₀ held : Option (List ℕ)) (seen : Seen) where
    -- none is left, or nothing more is to be searched
    pub so_far_end : (rest : List (List ℕ)) → (rest ≡ []) ⊎ (seen.ended ≡ true) → SoFar names begin held₀ rest left held seen → AreSeen work shown names begin left held₀ held seen
    so_far_end rest ends so_far = record {
      searched = λ clean.
          elim (cases_Bool seen.ended) [
            | inl is ↦ let (all, selected) = so_far.ended clean is in rw selected all
            | inr goes ↦
                let none : rest ≡ [] = elim ends [ inl none ↦ none | inr is ↦ absurd (cc) ] in
                rw (or-false seen.selected) at (so_far.on clean goes left held false (rw none (refl, Keeps-refl held, refl)))
          ];
      found = so_far.found;
      begun = so_far.begun held (begun_none seen.selected rest left held held (Keeps-refl held));
    }

    -- the status tells it
    pub status_seen : AreSeen work shown names begin left held₀ held seen → status_by shown seen < 2 → AreDoneOr work shown names begin left held₀ held (status_by shown seen)
    status_seen are low =
        elim (cases_Bool seen.failed) [
          | inr clean ↦ inl (seen.selected, are.searched clean, rw clean (status_clean shown seen.selected))
          | inl failed ↦
              elim (cases_Bool (is_enough shown seen.selected)) [
                | inl enough ↦
                    let only = enough_only shown seen.selected enough in
                    inr (only.0, rw enough refl, are.found only.0 only.1)
                | inr not ↦ absurd (omega (arith, rw failed at rw not at low))
              ]
        ]

  -- the output keeps what it holds
  module _ (held' held'' : Option (List ℕ)) (kept : Keeps held' held'') where
    done_kept : (names : List (List ℕ)) (follows : Bool) (left left' : S) (held : Option (List ℕ)) (any : Bool) → AreDone work shown follows names left left' held held' any
        → AreDone work shown follows names left left' held held'' any
    done_kept [] follows left left' held any are = (are.0, Keeps-trans held held' held'' are.1 kept, are.2)
    done_kept (name ∷ names) follows left left' held any (between, meanwhile, first, one, more) = (
      between,
      meanwhile,
      first,
      one,
      either_way (is_enough shown first) (λ is. (is.0, Keeps-trans meanwhile held' held'' is.1 kept, is.2))
          (λ is. (is.0, done_kept names (follows || first) between left' meanwhile is.0 is.1, is.2)) more,
    )

    pub or_kept : (names : List (List ℕ)) (left left' : S) (held : Option (List ℕ)) (status : ℕ) → AreDoneOr work shown names left left' held held' status
        → AreDoneOr work shown names left left' held held'' status
    or_kept names left left' held status (inl (any, are, is)) = inl (any, done_kept names false left left' held any are, is)
    or_kept names left left' held status (inr one) = inr one

    pub begun_kept : (names : List (List ℕ)) (follows : Bool) (left : S) (held : Option (List ℕ)) → AreBegun work follows names left held held' → AreBegun work follows names left held held''
    begun_kept [] follows left held begun = Keeps-trans held held' held'' begun kept
    begun_kept (name ∷ names) follows left held (inl keeps) = inl (Keeps-trans held held' held'' keeps kept)
    begun_kept (name ∷ names) follows left held (inr (between, meanwhile, leaves, inl (any, done, more))) =
        inr (between, meanwhile, leaves, inl (any, done, begun_kept names (follows || any) between meanwhile more))
    begun_kept (name ∷ names) follows left held (inr (between, meanwhile, leaves, inr (begins, more))) =
        inr (between, meanwhile, leaves, inr (begins, begun_kept names follows between meanwhile more))

-- the first of some names, and those behind it
module _ {X : Type 0} (f : X → List ℕ) where
  pub names_cut : (names : List X) (first d : X) (name : List ℕ) → 0 < length names → first ≡ get_or names 0 d → name ≡ f first
      → map f names ≡ name ∷ map f (take (length names - 1) (drop 1 names))
  names_cut names first d name some is same = grind (arith, common_steps)

-- where no name is left, none of their bytes are
pub ends_by : {Z : Type 0} (rest : List (Vec ℕ Z)) (seen : Seen) → (rest ≡ []) ⊎ (seen.ended ≡ true) → (listed_bytes rest ≡ []) ⊎ (seen.ended ≡ true)
ends_by rest seen (inl none) = inl (ap listed_bytes none)
ends_by rest seen (inr ended) = inr ended

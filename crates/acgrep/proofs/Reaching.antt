-- What may be told of the files that operands name.
use Rattle.acgrep.proofs.Common.{Errors, Flags, Nothing, SinkGhosts, Tells, TellsSome, cases_Bool, common_steps, or_input, some-tells, some-then, some-weaker}
use Rattle.std.proofs.Common.{◌++◌, ◌<◌, ◌∷◌, ◌≡◌, ◌≤◌, Bool, List, [], ap, arith, false, inl, inr, length, refl, subst, sym, true, ℕ}
use Rattle.std.specs.Prelude.{if◌then◌else◌}
use Rattle.tool_parts.proofs.Lines.{tells-none, tells-then, tells-weaker}
use Rattle.acgrep.specs.Arguments.{Origin, Said, shown_by}
use Rattle.acgrep.specs.Folders.{Tree}
use Rattle.acgrep.specs.Reached.{TellsMissed}
use Rattle.acgrep.specs.Runs.{AreReached, status_reached}
use Rattle.acgrep.specs.Told.{IsMessage, MaySay, TellsOfFile, TellsStatus, files_told, names_told, shown_names, source_names}
use Rattle.acgrep.proofs.Told.{AreWithin, among-first, among-later, message-more, status-some, status-weaker}

-- where a message of sources of patterns is told, and nothing before, a search failed
pub sources-told : {E : Type 0} (K : SinkGhosts E) (tree : Tree) (given : Said) (sources : List Origin) (names : List (List ℕ)) (old mid new : Errors E) → mid ≡ old
    → TellsSome K (IsMessage (source_names sources)) mid new → TellsStatus K (MaySay tree given sources names) given.flags.no_messages (shown_by given.flags) 2 old new
sources-told {E = E} K tree given sources names old mid new silent told = subst (λ (e : Errors E). TellsStatus K (MaySay tree given sources names) given.flags.no_messages (shown_by given.flags) 2 e new) silent
    (status-some K (MaySay tree given sources names) given.flags.no_messages (shown_by given.flags) mid new (some-weaker K (IsMessage (source_names sources)) (MaySay tree given sources names) mid new
    (λ line is. inl (inl (message-more (source_names sources) (names_told given.flags.no_messages given.label sources names) (λ name is. among-first name (source_names sources) (files_told given.flags.no_messages given.label (or_input names)) is) line is))) told))

-- and what may be told of its files
pub may-behind : (tree : Tree) (given : Said) (sources : List Origin) (names : List (List ℕ)) (line : List ℕ) → MaySay tree given [] names line → MaySay tree given sources names line
may-behind tree given sources names line (inl (inl message)) =
    inl (inl (message-more (files_told given.flags.no_messages given.label (or_input names)) (names_told given.flags.no_messages given.label sources names) (λ name is. among-later name (source_names sources) (files_told given.flags.no_messages given.label (or_input names)) is) line message))
may-behind tree given sources names line (inl (inr usage)) = inl (inr usage)
may-behind tree given sources names line (inr reached) = inr reached

-- a status that tells of no error is that of the search
pub reached-low : (flags : Flags) (unread : List (List ℕ)) (found : ℕ) → status_reached flags unread found < 2 → found < 2
reached-low flags unread found low = grind (arith, common_steps)

pub reached-bound : (flags : Flags) (unread : List (List ℕ)) (found : ℕ) → found ≤ 2 → status_reached flags unread found ≤ 2
reached-bound flags unread found bound = grind (arith, common_steps)

-- where something cannot be read it is one under `-q` alone
reached-quiet : (flags : Flags) (name : List ℕ) (names : List (List ℕ)) (found : ℕ) → status_reached flags (name ∷ names) found < 2 → flags.quiet ≡ true
reached-quiet flags name names found low = grind (arith, common_steps)

shown-quiet : (flags : Flags) → flags.quiet ≡ true → shown_by flags ≡ Nothing
shown-quiet flags quiet = rw quiet refl

-- what cannot be read is told, where that may be, and then what a search tells
module _ {E : Type 0} (K : SinkGhosts E) (P : List ℕ → Type 0) (flags : Flags) (unread : List (List ℕ)) (may : flags.no_messages ≡ false → (line : List ℕ) → IsMessage unread line → P line)
    (found : ℕ) (old mid new : Errors E) where
  pub missed-told : TellsMissed K flags.no_messages unread old mid → TellsStatus K P flags.no_messages (shown_by flags) found mid new
      → TellsStatus K P flags.no_messages (shown_by flags) (status_reached flags unread found) old new
  missed-told before after = by unread refl
    where
      first : Tells K P old mid
      first = elim (cases_Bool flags.no_messages) [
        | inl hushed ↦ subst (Tells K P old) (sym (before.none (inl hushed))) (tells-none K P old)
        | inr asked ↦ tells-weaker K (IsMessage unread) P old mid (may asked) before.tells
      ]

      by : (missed : List (List ℕ)) → unread ≡ missed → TellsStatus K P flags.no_messages (shown_by flags) (status_reached flags missed found) old new
      by [] none = subst (λ (e : Errors E). TellsStatus K P flags.no_messages (shown_by flags) found e new) (before.none (inr (ap length none))) after
      by (name ∷ others) some = record {
        tells = tells-then K P old mid new first after.tells;
        silent = λ low loud. absurd (loud (shown-quiet flags (reached-quiet flags name others found low)));
        some = λ asked two.
            let full : 0 < length unread = subst (λ (l : List (List ℕ)). 0 < length l) (sym some) (omega arith) in
            some-then K P old mid new (some-weaker K (IsMessage unread) P old mid (may asked) (before.some asked full)) after.tells;
      }

module _ (tree : Tree) (given : Said) (names files unread : List (List ℕ)) (reached : AreReached tree given names files unread) where
  more-file : (hushed : Bool) (line : List ℕ) → IsMessage (files_told hushed given.label files) line → IsMessage (if hushed then [] else (shown_names given.label files ++ unread)) line
  more-file true line message = message
  more-file false line message = message-more (shown_names given.label files) (shown_names given.label files ++ unread) (λ name is. among-first name (shown_names given.label files) unread is) line message

  -- a file that an operand names may be told, and what cannot be read
  may-file : (line : List ℕ) → IsMessage (files_told given.flags.no_messages given.label files) line → MaySay tree given [] names line
  may-file line message = inr (record { files = files; unread = unread; reached = reached; message = more-file given.flags.no_messages line message })

  may-missed : given.flags.no_messages ≡ false → (line : List ℕ) → IsMessage unread line → MaySay tree given [] names line
  may-missed asked line message = inr (record { files = files; unread = unread; reached = reached; message = rw asked (message-more unread _ (λ name is. among-later name (shown_names given.label files) unread is) line message) })

  -- and then what a search tells of those that were reached
  pub reached-told : {E : Type 0} (K : SinkGhosts E) (old mid new : Errors E) (found : ℕ) → TellsMissed K given.flags.no_messages unread old mid
      → TellsStatus K (IsMessage (files_told given.flags.no_messages given.label files)) given.flags.no_messages (shown_by given.flags) found mid new
      → TellsStatus K (MaySay tree given [] names) given.flags.no_messages (shown_by given.flags) (status_reached given.flags unread found) old new
  reached-told K old mid new found before after = missed-told K (MaySay tree given [] names) given.flags unread may-missed found old mid new before
      (status-weaker K (IsMessage (files_told given.flags.no_messages given.label files)) (MaySay tree given [] names) given.flags.no_messages (shown_by given.flags) found mid new may-file after)

-- each of these names was told, one after another
abbrev pub EachTold : {E : Type 0} → SinkGhosts E → List (List ℕ) → Errors E → Errors E → Type 0
EachTold K [] old new = new ≡ old
EachTold K (name ∷ names) old new = (mid : Errors _) × TellsOfFile K name old mid × EachTold K names mid new

module _ {E : Type 0} (K : SinkGhosts E) (all : List (List ℕ)) where
  each_tells : (names : List (List ℕ)) (old new : Errors E) → AreWithin names all → EachTold K names old new
      → Tells K (IsMessage all) old new × (length names ≡ 0 → new ≡ old) × (0 < length names → TellsSome K (IsMessage all) old new)
  each_tells [] old new within same = (subst (Tells K (IsMessage all) old) (sym same) (tells-none K (IsMessage all) old), λ none. same, λ some. absurd (omega (arith, some)))
  each_tells (name ∷ names) old new within (mid, told, others) =
      let some = some-then K (IsMessage all) old mid new (told all (within name (inl refl))) (each_tells names mid new (λ n is. within n (inr is)) others).0 in
      (some-tells K (IsMessage all) old new some, λ none. absurd (omega (arith, none)), λ _. some)

  pub told-each : (old new : Errors E) → EachTold K all old new → TellsMissed K false all old new
  told-each old new each =
      let (tells, none, some) = each_tells all old new (λ name is. is) each in
      record { tells = tells; none = λ which. elim which [ inl hushed ↦ absurd (cc) | inr empty ↦ none empty ]; some = λ asked. some }

  pub told-hushed : (e : Errors E) → TellsMissed K true all e e
  told-hushed e = record { tells = tells-none _ _ _; none = λ which. refl; some = λ asked. absurd (cc) }

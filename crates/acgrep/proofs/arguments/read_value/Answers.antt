-- Each option says its own.
use Rattle.std.proofs.Common.{◌≡◌, List, Some, refl, rules, ℕ}
use Rattle.acgrep.specs.Arguments.{Said, number_by, said, said_so, value_by, with_number}
use Rattle.acgrep.specs.declared.all_options.Valued.{Valued}
use Rattle.acgrep.specs.declared.all_options.Valued.TheVariants.{BinaryFiles, Devices, Excluded, ExcludedFolder, ExcludedFrom, Folders, Format, Included, Kind, Label, PatternFile, Regexp, RuleFile, Separator}
use Rattle.acgrep.proofs.arguments.read_value.Goals.{in-BinaryFiles+in_ok-set_switch-in-BinaryFiles, in-Devices+in_ok-set_switch-in-Devices, in-Excluded+in_ok-add_rule-in-Excluded, in-ExcludedFolder+in_ok-add_rule-in-ExcludedFolder, in-ExcludedFrom+in_ok-add_rule-in-ExcludedFrom, in-Folders+in_ok-set_switch-in-Folders, in-Format+in_ok-set_format-in-Format, in-Included+in_ok-add_rule-in-Included, in-Kind+in_ok-given-in-Kind, in-Label, in-PatternFile+in_ok-add_source-in-PatternFile, in-Regexp+in_ok-add_source-in-Regexp, in-RuleFile+in_ok-add_rule_file-in-RuleFile, in-Separator, in_default+in_ok-number-in_default}
use Rattle.acgrep.proofs.arguments.read_value.Goals as goal

-- all other options take a number
number_case : (valued : Valued) (argument : List ℕ) (s : Said) (number : ℕ) → (valued ≡ Regexp → ⊥) → (valued ≡ PatternFile → ⊥) → (valued ≡ Kind → ⊥) → (valued ≡ Separator → ⊥)
    → (valued ≡ Label → ⊥) → (valued ≡ Format → ⊥) → (valued ≡ Included → ⊥) → (valued ≡ Excluded → ⊥) → (valued ≡ ExcludedFrom → ⊥) → (valued ≡ ExcludedFolder → ⊥) → (valued ≡ Folders → ⊥) → (valued ≡ Devices → ⊥) → (valued ≡ BinaryFiles → ⊥) → (valued ≡ RuleFile → ⊥) → number_by argument ≡ Some number
    → value_by valued argument s ≡ Some (said_so (with_number valued number s))
number_case Regexp argument s number a b c d e f g h i j k l m n is = absurd (a refl)
number_case PatternFile argument s number a b c d e f g h i j k l m n is = absurd (b refl)
number_case Kind argument s number a b c d e f g h i j k l m n is = absurd (c refl)
number_case Separator argument s number a b c d e f g h i j k l m n is = absurd (d refl)
number_case Label argument s number a b c d e f g h i j k l m n is = absurd (e refl)
number_case Format argument s number a b c d e f g h i j k l m n is = absurd (f refl)
number_case Included argument s number a b c d e f g h i j k l m n is = absurd (g refl)
number_case Excluded argument s number a b c d e f g h i j k l m n is = absurd (h refl)
number_case ExcludedFrom argument s number a b c d e f g h i j k l m n is = absurd (i refl)
number_case ExcludedFolder argument s number a b c d e f g h i j k l m n is = absurd (j refl)
number_case Folders argument s number a b c d e f g h i j k l m n is = absurd (k refl)
number_case Devices argument s number a b c d e f g h i j k l m n is = absurd (l refl)
number_case BinaryFiles argument s number a b c d e f g h i j k l m n is = absurd (m refl)
number_case RuleFile argument s number a b c d e f g h i j k l m n is = absurd (n refl)
number_case _ argument s number a b c d e f g h i j k l m n is = rw is refl

pub returns-clause-read : goal.returns-clause-read
returns-clause-read c =
    elim c.match-valued.branch [
      | in-Regexp+in_ok-add_source-in-Regexp w ↦ search rules
      | in-PatternFile+in_ok-add_source-in-PatternFile w ↦ search rules
      | in-Kind+in_ok-given-in-Kind w ↦ search rules
      | in-Separator w ↦ search rules
      | in-Label w ↦ search rules
      | in-Format+in_ok-set_format-in-Format w ↦ search rules
      | in-Included+in_ok-add_rule-in-Included w ↦ search rules
      | in-Excluded+in_ok-add_rule-in-Excluded w ↦ search rules
      | in-ExcludedFrom+in_ok-add_rule-in-ExcludedFrom w ↦ search rules
      | in-ExcludedFolder+in_ok-add_rule-in-ExcludedFolder w ↦ search rules
      | in-Folders+in_ok-set_switch-in-Folders w ↦ search rules
      | in-Devices+in_ok-set_switch-in-Devices w ↦ search rules
      | in-BinaryFiles+in_ok-set_switch-in-BinaryFiles w ↦ search rules
      | in-RuleFile+in_ok-add_rule_file-in-RuleFile w ↦ search rules
      | in_default+in_ok-number-in_default w ↦
          let n = w.in_default in
          let h = number_case c.args.valued c.args.argument.now (said c.args.given.now) w.in_ok-number-in_default.number n.not-Regexp n.not-PatternFile n.not-Kind n.not-Separator n.not-Label n.not-Format n.not-Included n.not-Excluded n.not-ExcludedFrom n.not-ExcludedFolder n.not-Folders n.not-Devices n.not-BinaryFiles n.not-RuleFile w.in_ok-number-in_default.ensures.read in
          search rules
    ]

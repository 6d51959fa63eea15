-- The command by which the words are read, as `clap` sees it.
use Rattle.std.specs.Prelude.{Some, codes, true}
use Rattle.clap.specs.Words.{App, Rule, Text, new_app, new_rule, with_rule}
use Rattle.clap.specs.Simple.{on_top}

-- an option with one value
abbrev pub option_rule : Text → Rule
option_rule name = record (new_rule name) { long = Some name }

-- the command without the option that it has by itself
abbrev pub without_help : App → App
without_help a = on_top (λ s. record s { disable_help_flag = true }) a

-- two places and eight options
abbrev pub ficus_app : App
ficus_app = with_rule (with_rule (with_rule (with_rule (with_rule (with_rule (with_rule (with_rule (with_rule (with_rule
    (without_help (new_app (codes "ficus"))) (new_rule (codes "mode"))) (new_rule (codes "root")))
    (option_rule (codes "members"))) (option_rule (codes "ids"))) (option_rule (codes "bytes")))
    (option_rule (codes "seed"))) (option_rule (codes "steps"))) (option_rule (codes "volumes")))
    (option_rule (codes "replica"))) (option_rule (codes "tag"))

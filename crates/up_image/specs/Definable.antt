-- Which jobs a job file with its override can give, however long the two are (init(5)).
use Rattle.std.specs.Prelude.{◌≡◌, ◌≤◌, ℕ, ◌-◌, Bool, true, false, ◌==◌, ◌&&◌, ◌||◌, not, nat_le, nat_eq, List, [], ◌∷◌, ◌++◌, length, drop, map, Option, None, Some, is_none, codes}
use Rattle.std.specs.List.{list_all, list_any, before_first, concat, starts_with}
use Rattle.std.specs.Str.{bytes_eq, is_utf8}
use Rattle.up_text.specs.Commands.{command_marks_at, command_in}
use Rattle.up_text.specs.Expansion.{is_expandable}
use Rattle.up_text.specs.Names.{is_name, is_key, is_value, is_equals, has_equals}
use Rattle.up_text.specs.Places.{start, fault_in}
use Rattle.up_text.specs.Scripts.{is_filled, lines_of, script_in}
use Rattle.up_text.specs.Tokens.{Mark, is_line_feed, is_blank, is_hash}
use Rattle.up_expr.specs.declared.expr.Leaf.{Leaf}
use Rattle.up_expr.specs.declared.expr.Test.{Test}
use Rattle.up_expr.specs.declared.expr.Test.TheVariants.{Place, Same, Differs}
use Rattle.up_expr.specs.declared.node.Node.{Node}
use Rattle.up_expr.specs.declared.node.Node.TheVariants as node
use Rattle.up_expr.specs.Trees.{Tree, One, Both, Either}
use Rattle.up_expr.specs.Values.{is_negated_key, is_good_value, is_ordered}
use Rattle.up_stanza.specs.declared.action.Action.{Action}
use Rattle.up_stanza.specs.declared.action.Action.TheVariants.{Words, Shell}
use Rattle.up_stanza.specs.declared.exit.Exit.{Exit}
use Rattle.up_stanza.specs.declared.exit.Exit.TheVariants as exit
use Rattle.up_stanza.specs.declared.setting.Setting.{Setting}
use Rattle.up_stanza.specs.Actions.{is_shell}
use Rattle.up_stanza.specs.Signals.{is_signal}
use Rattle.up_conf.specs.declared.job.JobDef.{JobDef}
use Rattle.up_stanza.specs.Exits.{same_exit}
use Rattle.up_conf.specs.Order.{is_below}
use Rattle.up_image.specs.Compiling.{has_twice}
use Rattle.up_image.specs.Image.{has_image, is_countable, is_short}

-- a byte of a token: quotes and backslashes give any but 0 and a line feed
abbrev pub is_token_byte : ℕ → Bool
is_token_byte byte = not (byte == 0) && not (byte == 10)

-- what one token can say
abbrev pub is_token : List ℕ → Bool
is_token text = is_utf8 text && list_all is_token_byte text

-- what is set: keys with values or without, each key once; 30,000 in each of two files
abbrev pub is_value_token : Option (List ℕ) → Bool
is_value_token None = true
is_value_token (Some value) = is_token value

abbrev pub is_setting : Setting → Bool
is_setting setting = is_key setting.key && is_value_token setting.value

abbrev pub can_set : List Setting → Bool
can_set settings = nat_le (length settings) 60000 && list_all is_setting settings
    && not (has_twice (map (λ setting. setting.key) settings))

-- what is exported: as many keys, each once
abbrev pub can_export : List (List ℕ) → Bool
can_export keys = nat_le (length keys) 60000 && list_all is_key keys && not (has_twice keys)

-- normal exits: a status or a signal, each once
abbrev pub is_exit : Exit → Bool
is_exit (exit.Status status) = nat_le status 255
is_exit (exit.Signal signal) = is_signal signal

abbrev pub are_apart : List Exit → Bool
are_apart [] = true
are_apart (exit ∷ exits) = not (list_any (same_exit exit) exits) && are_apart exits

abbrev pub are_exits : List Exit → Bool
are_exits exits = list_all is_exit exits && are_apart exits

-- a word of a command that needs no shell
unfoldable pub is_word_byte : ℕ → Bool
is_word_byte byte =
    not (byte == 0 || is_line_feed byte || is_blank byte || is_hash byte || is_shell byte)

abbrev pub is_word : List ℕ → Bool
is_word text = is_filled text && is_utf8 text && list_all is_word_byte text

abbrev pub are_words : List (List ℕ) → Bool
are_words words = is_filled words && nat_le (length words) 65535 && list_all is_word words

-- whether the lines of a script, up to its end line, are this text
abbrev pub are_lines : List ℕ → Option (List (List ℕ) × List ℕ) → Bool
are_lines text None = false
are_lines text (Some script) = bytes_eq (concat script.0) text

-- a script: an end line after it is the first
unfoldable pub is_script : List ℕ → Bool
is_script text = are_lines text (script_in (lines_of (text ++ codes "end script")))

-- whether the marks of a command's text are whole, and give this text
abbrev pub reads_command : List ℕ → List Mark → Bool
reads_command text marks = is_none (fault_in marks) && bytes_eq (command_in marks) text

-- the text of a command: it is read as itself
unfoldable pub is_command : List ℕ → Bool
is_command text = reads_command text (command_marks_at (start text))

-- what the shell gets: a script, or after `exec` a command that needs it. No text of an image is longer than an image
abbrev pub is_shell_command : List ℕ → Bool
is_shell_command text = list_any is_shell text && is_command text

abbrev pub is_exec : List ℕ → Bool
is_exec text = starts_with nat_eq text (codes "exec ") && is_shell_command (drop 5 text)

abbrev pub is_for_shell : List ℕ → Bool
is_for_shell text = is_script text || is_exec text

abbrev pub is_shell_text : List ℕ → Bool
is_shell_text text =
    nat_le (length text) 16777216 && is_utf8 text && is_value text && is_for_shell text

-- what a process runs, if anything
abbrev pub can_run : Option Action → Bool
can_run None = true
can_run (Some (Words words)) = are_words words
can_run (Some (Shell text)) = is_shell_text text

-- a value that would be read as KEY=VALUE or KEY!=VALUE
abbrev pub looks_keyed : List ℕ → Bool
looks_keyed text =
    has_equals text && (is_key (before_first is_equals text) || is_negated_key (before_first is_equals text))

abbrev pub is_leaf_value : List ℕ → Bool
is_leaf_value value = is_token value && is_good_value value

-- a value of a leaf
abbrev pub is_test : Test → Bool
is_test (Place value) = is_leaf_value value && not (looks_keyed value)
is_test (Same key value) = is_key key && is_leaf_value value
is_test (Differs key value) = is_key key && is_leaf_value value

abbrev pub is_leaf : Leaf → Bool
is_leaf leaf = is_name leaf.event && list_all is_test leaf.values && is_ordered leaf.values
    && is_countable leaf.values

abbrev pub are_leaves : Tree → Bool
are_leaves (One leaf) = is_leaf leaf
are_leaves (Both left right) = are_leaves left && are_leaves right
are_leaves (Either left right) = are_leaves left && are_leaves right

-- a node, where it is a leaf
abbrev pub is_node : Node → Bool
is_node (node.Leaf leaf) = is_leaf leaf
is_node (node.And left right) = true
is_node (node.Or left right) = true

abbrev pub is_lone : Tree → Bool
is_lone (One leaf) = true
is_lone (Both left right) = false
is_lone (Either left right) = false

-- whether parentheses so deep are enough for an expression: they stand round a right side that is no leaf
abbrev pub is_shallow : ℕ → Tree → Bool
is_shallow depth (One leaf) = true
is_shallow depth (Both left right) =
    is_shallow depth left && (is_lone right || (nat_le 1 depth && is_shallow (depth - 1) right))
is_shallow depth (Either left right) =
    is_shallow depth left && (is_lone right || (nat_le 1 depth && is_shallow (depth - 1) right))

abbrev pub can_await : Option Tree → Bool
can_await None = true
can_await (Some tree) = are_leaves tree && is_shallow 256 tree && is_short (Some tree)

-- a job's fields
abbrev pub has_texts : JobDef → Bool
has_texts job = is_name job.name && is_token job.instance && is_expandable job.instance && is_token job.dir

abbrev pub has_numbers : JobDef → Bool
has_numbers job = nat_le job.limit.count 65535 && nat_le job.limit.interval 2147483647
    && is_signal job.kill_signal && nat_le job.kill_timeout 2147483647 && is_signal job.reload_signal

abbrev pub has_lists : JobDef → Bool
has_lists job = can_set job.env && can_export job.export && are_exits job.normal

abbrev pub has_processes : JobDef → Bool
has_processes job = can_run job.main && can_run job.pre_start && can_run job.post_start
    && can_run job.pre_stop && can_run job.post_stop

abbrev pub has_events : JobDef → Bool
has_events job = can_await job.start_on && can_await job.stop_on

-- whether files can give a job
unfoldable pub is_definable : JobDef → Bool
is_definable job = has_texts job && has_numbers job && has_lists job && has_processes job && has_events job

-- whether names are distinct and in byte order
abbrev pub are_ascending : List (List ℕ) → Bool
are_ascending [] = true
are_ascending (name ∷ []) = true
are_ascending (name ∷ next ∷ names) = is_below name next && are_ascending (next ∷ names)

-- whether files can give these jobs
unfoldable pub are_definable : List JobDef → Bool
are_definable jobs = are_ascending (map (λ job. job.name) jobs) && list_all is_definable jobs

-- what the jobs of a table are: at most 1,024, as files can give them, with an image
pub record IsTable (jobs : List JobDef) : Type 0 where
  pub few : length jobs ≤ 1024
  pub given : are_definable jobs ≡ true
  pub imaged : has_image jobs ≡ true

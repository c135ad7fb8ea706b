-- The text of a history. This project's own.
use Rattle.std.specs.Prelude.{ℕ, List, [], ◌++◌, codes, length}
use Rattle.std.specs.List.{flat_map}
use Rattle.watch.specs.Entries.{end_object, entry_lines, entry_object}
use Rattle.watch.specs.Facts.{facts_text}
use Rattle.watch.specs.Sights.{Sight, sights}
use Rattle.watch.specs.States.{state_text}
use Rattle.watch.specs.declared.form.Form.{Form}
use Rattle.watch.specs.declared.form.Form.TheVariants as form
use Rattle.session_run.specs.Final.{final_text}
use Rattle.vt_events.specs.declared.entry.Entry.{Entry}
use Rattle.vt_explain.specs.declared.hop_why.HopWhy.{HopWhy}
use Rattle.vt_world.specs.History.{replay}
use Rattle.vt_world.specs.State.{WorldState}

-- the text of an entry
abbrev pub sight_text : Form → List HopWhy → Sight → List ℕ
sight_text form.Lines cert s =
    entry_lines s.entry (facts_text form.Lines cert s) (state_text form.Lines s.before s.since_before)
    (state_text form.Lines s.after s.since)
sight_text form.Json cert s =
    entry_object s.place s.entry (facts_text form.Json cert s) (state_text form.Json s.after s.since)

-- the texts of entries from a place and a machine on
abbrev pub sights_text : Form → List HopWhy → ℕ → ℕ → WorldState → List Entry → List ℕ
sights_text f cert place since w entries = flat_map (sight_text f cert) (sights place since w entries)

-- the text before the first entry, which is the state there, and that after the last
abbrev pub head_text : Form → WorldState → List ℕ
head_text form.Lines w = state_text form.Lines w 0 ++ codes "\n"
head_text form.Json w = []

abbrev pub end_text : Form → ℕ → WorldState → List ℕ
end_text form.Lines entries w = []
end_text form.Json entries w = end_object entries (final_text w)

-- the text of a history, whose switches are the items of this certificate
abbrev pub watch_text : Form → List HopWhy → WorldState → List Entry → List ℕ
watch_text f cert start entries =
    head_text f start
    ++ (sights_text f cert 0 0 start entries ++ end_text f (length entries) (replay start entries))

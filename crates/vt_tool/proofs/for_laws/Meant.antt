-- The printed text of a history depends on the plain form of its entries alone.
use Rattle.std.proofs.Common.{refl, ◌≡◌, ℕ, ◌+◌, List, [], ◌∷◌, ◌++◌, codes, decimal, length, map, Option, Some, None, ap, ◌∙◌}
use Rattle.std.proofs.lemmas.List.{length-map}
use Rattle.std.proofs.lemmas.List.Folds.{fold-map}
use Rattle.std.specs.List.{flat_map, sum_by}
use Rattle.session_order.specs.Meant.{ReplayIsMeant, plain_history}
use Rattle.session_run.specs.Final.{final_text}
use Rattle.vt_events.specs.Charge.{charge_of}
use Rattle.vt_events.specs.Plain.{plain_entry, plain_event, plain_reply}
use Rattle.vt_events.specs.declared.entry.Entry.{Entry}
use Rattle.vt_events.specs.declared.event.Event.{Event}
use Rattle.vt_events.specs.declared.event.Event.TheVariants as event
use Rattle.vt_events.specs.declared.reply.Reply.{Reply}
use Rattle.vt_events.specs.declared.reply.Reply.TheVariants as reply
use Rattle.vt_events.proofs.Meant.{charge-meant}
use Rattle.vt_journal.specs.Callers.{caller_word}
use Rattle.vt_journal.specs.Journal.{entry_words, first_words, journal_text, line_text, tail_words}
use Rattle.vt_journal.specs.Log.{charge_of_all}
use Rattle.vt_journal.specs.Room.{tail_at}
use Rattle.vt_journal.specs.Words.{event_words, reply_words}
use Rattle.vt_journal.specs.declared.full.Full.{Full}
use Rattle.vt_journal.specs.declared.tail.Tail.{Tail}
use Rattle.vt_journal.specs.declared.tail.Tail.TheVariants as tail
use Rattle.vt_tool.specs.Commands.Drill.{drill_text, dropped_in, number_line}
use Rattle.vt_world.specs.History.{replay}
use Rattle.vt_world.specs.State.{WorldState}

call_words : (e : Event) → event_words (plain_event e) ≡ event_words e
call_words event.Exit = refl
call_words e = refl

answer_words : (r : Reply) → reply_words (plain_reply r) ≡ reply_words r
answer_words (reply.Text b) = refl
answer_words r = refl

words_meant : (version : ℕ) (entries : List Entry)
    → map (entry_words version) (plain_history entries) ≡ map (entry_words version) entries
words_meant version [] = refl
words_meant version (entry ∷ entries) =
    λ i. (caller_word version entry.caller ∷ decimal entry.seq
    ∷ call_words entry.event i ++ codes "=" ∷ answer_words entry.reply i)
    ∷ words_meant version entries i

journal_meant : (version : ℕ) (entries : List Entry) (end : Tail)
    → journal_text version (plain_history entries) end ≡ journal_text version entries end
journal_meant version entries end =
    ap (λ (lines : List (List (List ℕ))). flat_map line_text (first_words version ∷ lines ++ tail_words end ∷ []))
    (words_meant version entries)

charges_meant : (entries : List Entry) → charge_of_all (plain_history entries) ≡ charge_of_all entries
charges_meant entries =
    fold-map (λ n (x : Entry). n + charge_of x.event) plain_entry 0 entries
    ∙ (λ i. sum_by (λ (x : Entry). charge-meant x.event i) entries)

pub tail_meant : (entries : List Entry) (stop : Option Full)
    → tail_at (plain_history entries) stop ≡ tail_at entries stop
tail_meant entries None = λ i. tail.End (length-map entries plain_entry i) (charges_meant entries i)
tail_meant entries (Some full) = refl

-- the journal of a history with this stop, and the machine after it
abbrev pub run_text : WorldState → List Entry → Option Full → List ℕ
run_text start history stop = journal_text 2 history (tail_at history stop) ++ final_text (replay start history)

pub text_meant : ReplayIsMeant → (start : WorldState) (history : List Entry) (stop : Option Full)
    → run_text start (plain_history history) stop ≡ run_text start history stop
text_meant replay_meant start history stop =
    ap (λ (w : WorldState). journal_text 2 (plain_history history) (tail_at (plain_history history) stop) ++ final_text w)
    (replay_meant start history)
    ∙ ap (λ (end : Tail). journal_text 2 (plain_history history) end ++ final_text (replay start history))
    (tail_meant history stop)
    ∙ ap (λ (text : List ℕ). text ++ final_text (replay start history))
    (journal_meant 2 history (tail_at history stop))

-- the numbers of a drill
abbrev drilled : ℕ → ℕ → WorldState → List ℕ
drilled events bytes w =
    (((number_line (codes "events") events ++ number_line (codes "bytes") bytes)
    ++ number_line (codes "hops") w.trace.hops)
    ++ number_line (codes "dropped") (dropped_in w))
    ++ number_line (codes "display") w.display.front

pub drill_meant : ReplayIsMeant → (start : WorldState) (history : List Entry)
    → drill_text (plain_history history) (replay start (plain_history history))
    ≡ drill_text history (replay start history)
drill_meant replay_meant start history =
    ap (drilled (length (plain_history history)) (charge_of_all (plain_history history)))
    (replay_meant start history)
    ∙ ap (λ (n : ℕ). drilled n (charge_of_all (plain_history history)) (replay start history))
    (length-map history plain_entry)
    ∙ ap (λ (n : ℕ). drilled (length history) n (replay start history)) (charges_meant history)

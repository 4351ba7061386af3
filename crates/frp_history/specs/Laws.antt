-- Laws of legal histories.
use Rattle.std.specs.Prelude.{◌≡◌, ◌≤◌, ℕ, ◌+◌, ◌&&◌, length, List, [], ◌∷◌, ◌++◌, Some, IsTrue, if◌then◌else◌}
use Rattle.std.specs.Ordering.{is_lt}
use Rattle.std.specs.List.{AllByRecursion}
use Rattle.frp_base.specs.declared.time.Time.{Time}
use Rattle.frp_base.specs.declared.name.Name.{Name}
use Rattle.frp_base.specs.Time.{time_cmp}
use Rattle.frp_graph.specs.declared.trace.Moment.{Moment}
use Rattle.frp_graph.specs.declared.prog.Prog.{Prog}
use Rattle.frp_graph.specs.declared.limits.Limits.{Limits}
use Rattle.frp_graph.specs.Trace.{occ, moments_before}
use Rattle.frp_graph.specs.Sends.{AreSendable}
use Rattle.frp_graph.specs.Moments.{AtEach, IsTrace, is_of_transaction, moments_of}
use Rattle.frp_graph.specs.Sound.{IsSoundAfter, KeepsLimits}
use Rattle.frp_history.specs.declared.history.Delivered.{Delivered}
use Rattle.frp_history.specs.declared.history.Entry.{Entry}
use Rattle.frp_history.specs.declared.history.Reply.TheVariants.{Accepted}
use Rattle.frp_history.specs.History.{accepted_sends, entry_at, sends_of}
use Rattle.frp_history.specs.Windows.{delivered, first_item, window}
use Rattle.frp_history.specs.Legal.{IsReply, IsLegal}

-- what happened at a node between two times
abbrev pub between : Time → Time → Name → List Moment → List Delivered
between from to n [] = []
between from to n (m ∷ ms) = (if is_lt (time_cmp from m.time) && is_lt (time_cmp m.time to) then delivered m.time (occ m n) else []) ++ between from to n ms

-- The window that is seen before place d is a cell's value as the listener joined, and then what happened until d.
abbrev pub WindowsEnd : Type 0
WindowsEnd = (trace : List Moment) (n : Name) (j d : ℕ) → j ≤ d
    → window (moments_before (d ∷ []) trace) n j ≡ first_item trace n (j ∷ []) ++ between (j ∷ []) (d ∷ []) n trace

-- A legal history without its last entry is legal, with the moments before that entry's place.
abbrev pub LegalBefore : Type 0
LegalBefore = (prog : Prog) (limits : Limits) (entries : List Entry) (e : Entry) (trace : List Moment)
    → IsLegal prog limits (entries ++ e ∷ []) trace → IsLegal prog limits entries (moments_before ((length entries + 1) ∷ []) trace)

-- A legal history with one entry more is legal, where the moments of its transaction make a trace with those before, and its
-- reply is as it must be after them.
abbrev pub LegalAfter : Type 0
LegalAfter = (prog : Prog) (limits : Limits) (entries : List Entry) (e : Entry) (trace own : List Moment)
    → IsLegal prog limits entries trace
    → AllByRecursion (λ m. IsTrue (is_of_transaction (length entries + 1) m.time)) own
    → IsTrace prog (sends_of (entries ++ e ∷ [])) (trace ++ own)
    → AtEach (IsSoundAfter prog) [] (trace ++ own)
    → KeepsLimits limits (trace ++ own)
    → length entries + 1 ≤ limits.entries
    → IsReply prog limits trace own entries (length entries + 1) e.caller e.cmd e.reply
    → IsLegal prog limits (entries ++ e ∷ []) (trace ++ own)

-- Each send of a legal history could be sent.
abbrev pub SendsAreSendable : Type 0
SendsAreSendable = (prog : Prog) (limits : Limits) (entries : List Entry) (trace : List Moment)
    → IsLegal prog limits entries trace → AreSendable prog (sends_of entries) trace

-- An entry that sends nothing, as an empty group or a refused send, has no moments; where it is accepted, it is with none.
abbrev pub OnlySendsHaveMoments : Type 0
OnlySendsHaveMoments = (prog : Prog) (limits : Limits) (entries : List Entry) (trace : List Moment) → IsLegal prog limits entries trace
    → (k : ℕ) (e : Entry) → entry_at entries k ≡ Some e → accepted_sends k e.cmd e.reply ≡ []
    → (moments_of k trace ≡ 0) × ((n : ℕ) → e.reply ≡ Accepted n → n ≡ 0)

-- A session, from the entries of its calls.
use Rattle.std.proofs.Common.{◌≡◌, ℕ, ◌+◌, ◌<◌, ◌≤◌, suc, zero, Bool, true, false, List, [], ◌∷◌, ◌++◌, map, take, length, length-append, get_or, Option, Some, None, Ok, refl, sym, ap, ◌∙◌, subst, arith, append_assoc}
use Rattle.std.specs.Prelude.{slice_index_or, ◌==◌}
use Rattle.std.proofs.lemmas.Grind.{common_steps}
use Rattle.std.proofs.lemmas.List.{append-nil, take_more, length-map, map-append}
use Rattle.std.proofs.lemmas.Bool.Decides.{nat_tests}
use Rattle.frp_base.specs.declared.name.Name.{Name}
use Rattle.frp_graph.specs.declared.trace.Fact.{Fact}
use Rattle.frp_history.specs.declared.history.Key.{Key}
use Rattle.frp_history.specs.declared.history.Cmd.{Cmd}
use Rattle.frp_history.specs.declared.history.Reply.{Reply}
use Rattle.frp_history.specs.declared.history.Reply.TheVariants.{Accepted, Refused, Joined, Given, Left}
use Rattle.frp_history.specs.declared.history.Entry.{Entry}
use Rattle.frp_history.specs.Sessions.{Call, calls, calls_of, key_of, keys_of, IsSession}
use Rattle.frp_core.specs.Core.{State, HasRoom, HasAnswered, entry_of}
use Rattle.frp_run.specs.Runs.{send_cmd, script_cmds, join_call, send_call, leave_call, first_script, HasRoomFor, HasJoined, HaveAnswered, HaveJoined}

calls_append : (xs ys : List Entry) → calls (xs ++ ys) ≡ calls xs ++ calls ys
calls_append xs ys = map-append (λ (e : Entry). record { caller = e.caller; cmd = e.cmd }) xs ys

keys_append : (xs ys : List Entry) → keys_of (xs ++ ys) ≡ keys_of xs ++ keys_of ys
keys_append [] ys = refl
keys_append (e ∷ es) ys = ap (λ ks. key_of e.reply ++ ks) (keys_append es ys) ∙ sym (append_assoc (key_of e.reply) (keys_of es) (keys_of ys))

-- the first calls of a list, and one more
more_of : {A : Type 0} (f : A → Call) (xs : List A) (i : ℕ) (x : A) → i < length xs → x ≡ get_or xs i x → map f (take (i + 1) xs) ≡ map f (take i xs) ++ f x ∷ []
more_of f xs i x l q = ap (map f) (take_more xs i x l ∙ ap (λ y. take i xs ++ y ∷ []) (sym q)) ∙ map-append f (take i xs) (x ∷ [])

-- no call yet, and one more
pub none_yet : (c : State) → HaveAnswered c c []
none_yet c = record { more = []; entries = sym (append-nil c.entries); called = refl; program_stays = refl }

added : (old mid new : State) (made : List Call) (call : Call) (reply : Reply) → new.entries ≡ mid.entries ++ entry_of call reply ∷ [] → new.prog ≡ mid.prog
    → HaveAnswered old mid made → HaveAnswered old new (made ++ call ∷ [])
added old mid new made call reply e p h = record {
  more = h.more ++ entry_of call reply ∷ [];
  entries = e ∙ ap (λ es. es ++ entry_of call reply ∷ []) h.entries ∙ append_assoc old.entries h.more (entry_of call reply ∷ []);
  called = calls_append h.more (entry_of call reply ∷ []) ∙ ap (λ (cs : List Call). cs ++ call ∷ []) h.called;
  program_stays = p ∙ h.program_stays;
}

pub answered_more : {A : Type 0} (f : A → Call) (old mid new : State) (xs : List A) (i : ℕ) (x : A) → i < length xs → x ≡ get_or xs i x
    → HaveAnswered old mid (map f (take i xs)) → HasAnswered mid new (f x) → new.prog ≡ mid.prog → HaveAnswered old new (map f (take (i + 1) xs))
answered_more f old mid new xs i x l q h e p =
    subst (HaveAnswered old new) (sym (more_of f xs i x l q)) (added old mid new (map f (take i xs)) (f x) e.reply e.entries p h)

get_same : {A : Type 0} (xs : List A) (i : ℕ) (a b : A) → i < length xs → get_or xs i a ≡ get_or xs i b
get_same [] i a b l = absurd (omega arith)
get_same (x ∷ xs) zero a b l = refl
get_same (x ∷ xs) (suc i) a b l = get_same xs i a b (omega arith)

pub answered_at : {A : Type 0} (f : A → Call) (old mid new : State) (xs : List A) (i : ℕ) (d : A) → i < length xs
    → HaveAnswered old mid (map f (take i xs)) → HasAnswered mid new (f (get_or xs i d)) → new.prog ≡ mid.prog → HaveAnswered old new (map f (take (i + 1) xs))
answered_at f old mid new xs i d l h e p = answered_more f old mid new xs i (get_or xs i d) l (get_same xs i d (get_or xs i d) l) h e p

pub none_joined : (c : State) → HaveJoined c c [] []
unfolding none_yet
none_joined c = record { answered = none_yet c; given = refl }

pub joined_more : (old mid new : State) (xs : List Name) (keys more : List Key) (i : ℕ) (x : Name) → i < length xs → x ≡ get_or xs i x
    → HaveJoined old mid (take i xs) keys → HasJoined mid new x keys more → HaveJoined old new (take (i + 1) xs) more
unfolding added
joined_more old mid new xs keys more i x l q h e = record {
  answered = record {
    more = h.answered.more ++ last ∷ [];
    entries = next.entries;
    called = next.called ∙ sym (more_of join_call xs i x l q);
    program_stays = next.program_stays;
  };
  given = keys_append h.answered.more (last ∷ []) ∙ ap (λ ks. keys_of h.answered.more ++ ks) (append-nil (key_of e.reply)) ∙ ap (λ ks. ks ++ key_of e.reply) h.given ∙ sym e.given;
} where
  last : Entry
  last = entry_of (join_call x) e.reply

  next : HaveAnswered old new (map join_call (take i xs) ++ join_call x ∷ [])
  next = added old mid new (map join_call (take i xs)) (join_call x) e.reply e.entries e.program_stays h.answered

-- Room in the history.

called_count : (es : List Entry) (made : List Call) → calls es ≡ made → length es ≡ length made
called_count es made q = sym (length-map es (λ (e : Entry). record { caller = e.caller; cmd = e.cmd })) ∙ ap length q

answered_count : (old new : State) (made : List Call) → HaveAnswered old new made → length new.entries ≡ length old.entries + length made
answered_count old new made h =
    let e : length new.entries ≡ length old.entries + length h.more = ap length h.entries ∙ length-append old.entries h.more in
    let a : length h.more ≡ length made = called_count h.more made h.called in
    omega arith

-- for one more of some calls
pub room_for_one : {A : Type 0} (f : A → Call) (old mid : State) (xs : List A) (i : ℕ) → i < length xs → HasRoomFor (length xs) old → HaveAnswered old mid (map f (take i xs)) → HasRoom mid
room_for_one f old mid xs i l r h =
    let e : length mid.entries ≡ length old.entries + length (map f (take i xs)) = answered_count old mid (map f (take i xs)) h in
    let a : length (map f (take i xs)) ≡ length (take i xs) = length-map (take i xs) f in
    let b : length (take i xs) ≡ i = grind (arith, common_steps) in
    omega arith

-- and for what is left after some
pub room_after : {A : Type 0} (f : A → Call) (old new : State) (xs : List A) (n : ℕ) → HasRoomFor (length xs + n) old → HaveAnswered old new (map f xs) → HasRoomFor n new
room_after f old new xs n r h =
    let e : length new.entries ≡ length old.entries + length (map f xs) = answered_count old new (map f xs) h in
    let a : length (map f xs) ≡ length xs = length-map xs f in
    omega arith

-- no more keys are given than there are joins
key_count : (r : Reply) → length (key_of r) ≤ 1
key_count (Joined key) = omega arith
key_count (Accepted n) = omega arith
key_count (Refused why) = omega arith
key_count (Given items) = omega arith
key_count (Left items) = omega arith

keys_few : (es : List Entry) → length (keys_of es) ≤ length es
keys_few [] = omega arith
keys_few (e ∷ es) =
    let a : length (key_of e.reply) ≤ 1 = key_count e.reply in
    let b : length (keys_of es) ≤ length es = keys_few es in
    let c : length (key_of e.reply ++ keys_of es) ≡ length (key_of e.reply) + length (keys_of es) = length-append (key_of e.reply) (keys_of es) in
    omega arith

pub few_keys : (old new : State) (nodes : List Name) (keys : List Key) → HaveJoined old new nodes keys → length keys ≤ length nodes
few_keys old new nodes keys h =
    let a : length (keys_of h.answered.more) ≤ length h.answered.more = keys_few h.answered.more in
    let b : length h.answered.more ≡ length (map join_call nodes) = called_count h.answered.more (map join_call nodes) h.answered.called in
    let c : length (map join_call nodes) ≡ length nodes = length-map nodes join_call in
    let d : length (keys_of h.answered.more) ≡ length keys = ap length h.given in
    omega arith

-- Who made the sends.

-- the first of the sends of facts is of the first fact
first_sent : (e : Entry) (es : List Entry) (f : Fact) (fs : List Fact) → calls (e ∷ es) ≡ map send_call (f ∷ fs) → (e.caller ≡ 1) × (e.cmd ≡ send_cmd f) × (calls es ≡ map send_call fs)
first_sent e es f fs q =
    let first : ◌≡◌ {A = Call} (record { caller = e.caller; cmd = e.cmd }) (send_call f) = cc in
    (ap (λ (c : Call). c.caller) first, ap (λ (c : Call). c.cmd) first, cc)

sent_first : (es : List Entry) (fs : List Fact) → calls es ≡ map send_call fs → calls_of 1 es ≡ map send_cmd fs
sent_first [] [] q = refl
sent_first [] (f ∷ fs) q = absurd cc
sent_first (e ∷ es) [] q = absurd cc
sent_first (e ∷ es) (f ∷ fs) q =
    let p = first_sent e es f fs q in
    let here : (e.caller == 1) ≡ true = ap (λ k. k == 1) p.0 in
    rw here (λ j. p.1 j ∷ sent_first es fs p.2 j)

sent_other : (k : ℕ) (es : List Entry) (fs : List Fact) → (1 == k) ≡ false → calls es ≡ map send_call fs → calls_of k es ≡ []
sent_other k [] fs d q = refl
sent_other k (e ∷ es) [] d q = absurd cc
sent_other k (e ∷ es) (f ∷ fs) d q =
    let p = first_sent e es f fs q in
    let here : (e.caller == k) ≡ false = ap (λ c. c == k) p.0 ∙ d in
    rw here (sent_other k es fs d p.2)

-- the sends are those of a lone script, or of none
sent_scripts : (scripts : List (List Fact)) (es : List Entry) (i : ℕ) → length scripts ≤ 1 → calls es ≡ map send_call (first_script scripts) → calls_of (suc i) es ≡ slice_index_or (script_cmds scripts) i []
sent_scripts [] es i l q = no_calls es i q where
  no_calls : (es : List Entry) (i : ℕ) → calls es ≡ [] → calls_of (suc i) es ≡ []
  no_calls [] i q = refl
  no_calls (e ∷ es) i q = absurd cc
sent_scripts (fs ∷ []) es zero l q = sent_first es fs q
sent_scripts (fs ∷ []) es (suc i) l q = sent_other (suc (suc i)) es fs (let e : (1 == suc (suc i)) ≡ false = grind (arith, nat_tests) in e) q
sent_scripts (fs ∷ gs ∷ more) es i l q = absurd (omega arith)

-- the joins, the sends and the leaves are a session
pub is_session : (c0 c1 c2 c3 : State) (nodes : List Name) (keys : List Key) (scripts : List (List Fact)) → c0.entries ≡ [] → length scripts ≤ 1
    → HaveJoined c0 c1 nodes keys → HaveAnswered c1 c2 (map send_call (first_script scripts)) → HaveAnswered c2 c3 (map leave_call keys) → IsSession nodes (script_cmds scripts) c3.entries
is_session c0 c1 c2 c3 nodes keys scripts z few j s l = record {
  joins = j.answered.more;
  sends = s.more;
  leaves = l.more;
  in_order = l.entries ∙ ap (λ es. es ++ l.more) (s.entries ∙ ap (λ es. es ++ s.more) (j.answered.entries ∙ ap (λ es. es ++ j.answered.more) z));
  joined = j.answered.called;
  sent = λ i. sent_scripts scripts s.more i few s.called;
  only_scripts = sent_other 0 s.more (first_script scripts) refl s.called;
  left = l.called ∙ ap (map leave_call) (sym j.given);
}

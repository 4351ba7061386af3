-- Reading word by word gives a line exactly where the words are one.
use Rattle.std.proofs.Common.{◌≡◌, ◌<◌, ◌≤◌, ◌+◌, ◌⊎◌, ℕ, Bool, true, false, List, [], ◌∷◌, ◌++◌, length, Option, Some, None, refl, sym, ap, ◌∙◌, inl, inr, arith, append_assoc, get_or, subst}
use Rattle.std.specs.Prelude.{is_some, not, if◌then◌else◌, unwrap_or, option_map, option_and_then, codes, ◌==◌}
use Rattle.std.specs.List.{AllByRecursion, flat_map, before_first, after_first, position_or_len}
use Rattle.std.specs.Option.{option_to_list}
use Rattle.std.specs.Str.{bytes_eq}
use Rattle.std.proofs.lemmas.Bool.Decides.{nat_tests}
use Rattle.std.proofs.lemmas.Slice.Eq.{bytes_eq-Decides}
use Rattle.std.proofs.lemmas.List.{append-nil}
use Rattle.std.proofs.lemmas.List.Sums.{split_at_first, passes_at_first, prefix_len-le-length}
use Rattle.frp_words.specs.declared.command.Mode.{Mode}
use Rattle.frp_words.specs.declared.command.Mode.TheVariants.{Run, Check, Replay, Gen}
use Rattle.frp_words.specs.declared.command.Line.{Line}
use Rattle.frp_words.specs.declared.setting.Setting.{Setting}
use Rattle.frp_words.specs.declared.setting.Setting.TheVariants.{Workers, Count, Start}
use Rattle.frp_words.specs.declared.state.Given.{Given}
use Rattle.frp_words.specs.declared.state.Place.{Place}
use Rattle.frp_words.specs.declared.state.Place.TheVariants.{Open, Awaits, Ended}
use Rattle.frp_words.specs.declared.state.State.{State}
use Rattle.frp_words.specs.CommandLine.{Use, use_words, HasValue, values_of, IsSet, IsLine, mode_word, setting_word, value_of, default_value}
use Rattle.frp_words.specs.Steps.{mode_called, setting_called, with_value, opened, taken, cut, joined, named, begun, stepped, step, walked, ended, end, start, options_of, line_with, line_of}

-- ---- steps that may fail

and_then-some : {A B : Type 0} (f : A → Option B) (o : Option A) (y : B) → option_and_then f o ≡ Some y
    → (x : A) × (o ≡ Some x) × (f x ≡ Some y)
and_then-some f None y h = absurd cc
and_then-some f (Some x) y h = (x, refl, h)

map-some : {A B : Type 0} (f : A → B) (o : Option A) (y : B) → option_map f o ≡ Some y → (x : A) × (o ≡ Some x) × (f x ≡ y)
map-some f None y h = absurd cc
map-some f (Some x) y h = (x, refl, let e : f x ≡ y = cc in e)

-- ---- the words of modes and options

mode_called-word : (m : Mode) → mode_called (mode_word m) ≡ Some m
unfolding mode_called
mode_called-word Run = refl
mode_called-word Check = refl
mode_called-word Replay = refl
mode_called-word Gen = refl

setting_called-word : (o : Setting) → setting_called (setting_word o) ≡ Some o
unfolding setting_called
setting_called-word Workers = refl
setting_called-word Count = refl
setting_called-word Start = refl

mode_by : (w : List ℕ) (m : Mode) (a b d e : Bool) → bytes_eq w (codes "run") ≡ a → bytes_eq w (codes "check") ≡ b
    → bytes_eq w (codes "replay") ≡ d → bytes_eq w (codes "gen") ≡ e → mode_called w ≡ Some m → w ≡ mode_word m
unfolding mode_called
mode_by w m true b d e fa fb fd fe h =
    let f : Some Run ≡ Some m = rw fa at h in
    let same : Run ≡ m = cc in
    (bytes_eq-Decides w (codes "run")).0 fa ∙ ap mode_word same
mode_by w m false true d e fa fb fd fe h =
    let f : Some Check ≡ Some m = rw (fa, fb) at h in
    let same : Check ≡ m = cc in
    (bytes_eq-Decides w (codes "check")).0 fb ∙ ap mode_word same
mode_by w m false false true e fa fb fd fe h =
    let f : Some Replay ≡ Some m = rw (fa, fb, fd) at h in
    let same : Replay ≡ m = cc in
    (bytes_eq-Decides w (codes "replay")).0 fd ∙ ap mode_word same
mode_by w m false false false true fa fb fd fe h =
    let f : Some Gen ≡ Some m = rw (fa, fb, fd, fe) at h in
    let same : Gen ≡ m = cc in
    (bytes_eq-Decides w (codes "gen")).0 fe ∙ ap mode_word same
mode_by w m false false false false fa fb fd fe h =
    let f : None ≡ Some m = rw (fa, fb, fd, fe) at h in
    absurd cc

mode_called-is : (w : List ℕ) (m : Mode) → mode_called w ≡ Some m → w ≡ mode_word m
mode_called-is w m h = mode_by w m _ _ _ _ refl refl refl refl h

setting_by : (w : List ℕ) (o : Setting) (a b d : Bool) → bytes_eq w (codes "--workers") ≡ a → bytes_eq w (codes "--count") ≡ b
    → bytes_eq w (codes "--start") ≡ d → setting_called w ≡ Some o → w ≡ setting_word o
unfolding setting_called
setting_by w o true b d fa fb fd h =
    let f : Some Workers ≡ Some o = rw fa at h in
    let same : Workers ≡ o = cc in
    (bytes_eq-Decides w (codes "--workers")).0 fa ∙ ap setting_word same
setting_by w o false true d fa fb fd h =
    let f : Some Count ≡ Some o = rw (fa, fb) at h in
    let same : Count ≡ o = cc in
    (bytes_eq-Decides w (codes "--count")).0 fb ∙ ap setting_word same
setting_by w o false false true fa fb fd h =
    let f : Some Start ≡ Some o = rw (fa, fb, fd) at h in
    let same : Start ≡ o = cc in
    (bytes_eq-Decides w (codes "--start")).0 fd ∙ ap setting_word same
setting_by w o false false false fa fb fd h =
    let f : None ≡ Some o = rw (fa, fb, fd) at h in
    absurd cc

setting_called-is : (w : List ℕ) (o : Setting) → setting_called w ≡ Some o → w ≡ setting_word o
setting_called-is w o h = setting_by w o _ _ _ refl refl refl h

-- ---- a word that is cut at its first `=`

abbrev is_equals : ℕ → Bool
is_equals b = b == 61

is_equals-is : (b : ℕ) → is_equals b ≡ true → b ≡ 61
is_equals-is b e = grind (arith, nat_tests)

unequal : (m n : ℕ) → m < n → (m == n) ≡ false
unequal m n lt = grind (arith, nat_tests)

less_by : (m n : ℕ) → m ≤ n → (m == n) ≡ false → m < n
less_by m n le e = grind (arith, nat_tests)

cut_by : (w : List ℕ) (p : List ℕ × List ℕ) (b : Bool) → (position_or_len is_equals w == length w) ≡ b → cut w ≡ Some p
    → w ≡ p.0 ++ codes "=" ++ p.1
cut_by w p true e h = let f : None ≡ Some p = rw e at h in absurd cc
cut_by w p false e h =
    let place : ℕ = position_or_len is_equals w in
    let before : List ℕ = before_first is_equals w in
    let after : List ℕ = after_first is_equals w in
    let le : place ≤ length w = prefix_len-le-length (λ b. not (is_equals b)) w in
    let lt : place < length w = less_by place (length w) le e in
    let equals : get_or w place 0 ≡ 61 = is_equals-is (get_or w place 0) (passes_at_first is_equals w 0 lt) in
    let parts : Some (before, after) ≡ Some p = rw e at h in
    let same : (before, after) ≡ p = cc in
    split_at_first is_equals w 0 lt ∙ ap (λ b. before ++ (b ∷ after)) equals
    ∙ sym (append_assoc before (codes "=") after) ∙ ap (λ (q : List ℕ × List ℕ). q.0 ++ codes "=" ++ q.1) same

cut-is : (w : List ℕ) (p : List ℕ × List ℕ) → cut w ≡ Some p → w ≡ p.0 ++ codes "=" ++ p.1
cut-is w p h = cut_by w p (position_or_len is_equals w == length w) refl h

cut-joined : (o : Setting) (v : List ℕ) → cut (setting_word o ++ codes "=" ++ v) ≡ Some (setting_word o, v)
cut-joined Workers v =
    let lt : 9 < length (codes "--workers" ++ codes "=" ++ v) = omega arith in
    rw (unequal 9 (length (codes "--workers" ++ codes "=" ++ v)) lt) refl
cut-joined Count v =
    let lt : 7 < length (codes "--count" ++ codes "=" ++ v) = omega arith in
    rw (unequal 7 (length (codes "--count" ++ codes "=" ++ v)) lt) refl
cut-joined Start v =
    let lt : 7 < length (codes "--start" ++ codes "=" ++ v) = omega arith in
    rw (unequal 7 (length (codes "--start" ++ codes "=" ++ v)) lt) refl

-- ---- what a step says of its word

-- the text writes a value of an option that wasn't used yet
record Valued (g : Given) (o : Setting) (text : List ℕ) (s : State) : Type 0 where
  n : ℕ
  k : Given
  value : value_of o text ≡ Some n
  given : with_value g o n ≡ Some k
  after : s ≡ opened k

record Closing (g : Given) (w : List ℕ) (s : State) : Type 0 where
  is : w ≡ codes "--"
  after : s ≡ record { place = Ended; given = g }

record Naming (g : Given) (w : List ℕ) (s : State) : Type 0 where
  o : Setting
  is : w ≡ setting_word o
  after : s ≡ record { place = Awaits o; given = g }

record Joining (g : Given) (w : List ℕ) (s : State) : Type 0 where
  o : Setting
  text : List ℕ
  is : w ≡ setting_word o ++ codes "=" ++ text
  valued : Valued g o text s

taken-is : (g : Given) (o : Setting) (text : List ℕ) (s : State) → taken g o text ≡ Some s → Valued g o text s
unfolding taken
taken-is g o text s h =
    let a = and_then-some (λ n. option_map opened (with_value g o n)) (value_of o text) s h in
    let b = map-some opened (with_value g o a.0) s a.2 in
    record { n = a.0; k = b.0; value = a.1; given = b.1; after = sym b.2 }

joined-is : (g : Given) (w : List ℕ) (s : State) → joined g w ≡ Some s → Joining g w s
joined-is g w s h =
    let a = and_then-some (λ (p : List ℕ × List ℕ). option_and_then (λ o. taken g o p.1) (setting_called p.0)) (cut w) s h in
    let b = and_then-some (λ o. taken g o a.0.1) (setting_called a.0.0) s a.2 in
    record {
      o = b.0;
      text = a.0.1;
      is = cut-is w a.0 a.1 ∙ ap (λ name. name ++ codes "=" ++ a.0.1) (setting_called-is a.0.0 b.0 b.1);
      valued = taken-is g b.0 a.0.1 s b.2;
    }

named_by : (g : Given) (w : List ℕ) (s : State) (called : Option Setting) → setting_called w ≡ called → named g w called ≡ Some s
    → Naming g w s ⊎ Joining g w s
named_by g w s (Some o) e h =
    let same : record { place = Awaits o; given = g } ≡ s = cc in
    inl (record { o = o; is = setting_called-is w o e; after = sym same })
named_by g w s None e h = inr (joined-is g w s h)

begun_by : (g : Given) (w : List ℕ) (s : State) (b : Bool) → bytes_eq w (codes "--") ≡ b → begun g w ≡ Some s
    → Closing g w s ⊎ (Naming g w s ⊎ Joining g w s)
begun_by g w s true e h =
    let f : Some (record { place = Ended; given = g }) ≡ Some s = rw e at h in
    let same : record { place = Ended; given = g } ≡ s = cc in
    inl (record { is = (bytes_eq-Decides w (codes "--")).0 e; after = sym same })
begun_by g w s false e h =
    let f : named g w (setting_called w) ≡ Some s = rw e at h in
    inr (named_by g w s (setting_called w) refl f)

-- ---- the values that uses add to what was given

record Adds (g : Given) (uses : List Use) (h : Given) : Type 0 where
  workers : option_to_list h.workers ≡ option_to_list g.workers ++ values_of Workers uses
  count : option_to_list h.count ≡ option_to_list g.count ++ values_of Count uses
  start : option_to_list h.start ≡ option_to_list g.start ++ values_of Start uses

adds_none : (g h : Given) → h ≡ g → Adds g [] h
adds_none g h e = record {
  workers = ap (λ (k : Given). option_to_list k.workers) e ∙ sym (append-nil (option_to_list g.workers));
  count = ap (λ (k : Given). option_to_list k.count) e ∙ sym (append-nil (option_to_list g.count));
  start = ap (λ (k : Given). option_to_list k.start) e ∙ sym (append-nil (option_to_list g.start));
}

same_value : (u v : Option ℕ) → option_to_list u ≡ option_to_list v ++ [] → u ≡ v
same_value None None e = refl
same_value None (Some y) e = absurd cc
same_value (Some x) None e = absurd cc
same_value (Some x) (Some y) e = let same : x ≡ y = cc in ap Some same

abbrev given_of : Option ℕ → Option ℕ → Option ℕ → Given
given_of a b d = record { workers = a; count = b; start = d }

none_added : (g h : Given) → Adds g [] h → g ≡ h
none_added g h a =
    let w : g.workers ≡ h.workers = sym (same_value h.workers g.workers a.workers) in
    let c : g.count ≡ h.count = sym (same_value h.count g.count a.count) in
    let s : g.start ≡ h.start = sym (same_value h.start g.start a.start) in
    ap (λ x. given_of x g.count g.start) w ∙ ap (λ x. given_of h.workers x g.start) c ∙ ap (λ x. given_of h.workers h.count x) s

if_none : {A : Type 0} (v : Option ℕ) (y k : A) → (if is_some v then None else Some y) ≡ Some k → (v ≡ None) × (y ≡ k)
if_none None y k h = (refl, let e : y ≡ k = cc in e)
if_none (Some x) y k h = absurd cc

-- a use of the option o, with its text and its value
abbrev use_of : Setting → List ℕ → ℕ → Bool → Use
use_of o text n joined = record { setting = o; text = text; value = n; is_joined = joined }

adds_more : (o : Setting) (text : List ℕ) (n : ℕ) (joined : Bool) (uses : List Use) (g k h : Given) → with_value g o n ≡ Some k → Adds k uses h
    → Adds g (use_of o text n joined ∷ uses) h
adds_more Workers text n joined uses g k h e a =
    let p = if_none g.workers (record g { workers = Some n }) k e in
    let b : Adds (record g { workers = Some n }) uses h = subst (λ x. Adds x uses h) (sym p.1) a in
    record { workers = b.workers ∙ ap (λ v. option_to_list v ++ n ∷ values_of Workers uses) (sym p.0); count = b.count; start = b.start }
adds_more Count text n joined uses g k h e a =
    let p = if_none g.count (record g { count = Some n }) k e in
    let b : Adds (record g { count = Some n }) uses h = subst (λ x. Adds x uses h) (sym p.1) a in
    record { workers = b.workers; count = b.count ∙ ap (λ v. option_to_list v ++ n ∷ values_of Count uses) (sym p.0); start = b.start }
adds_more Start text n joined uses g k h e a =
    let p = if_none g.start (record g { start = Some n }) k e in
    let b : Adds (record g { start = Some n }) uses h = subst (λ x. Adds x uses h) (sym p.1) a in
    record { workers = b.workers; count = b.count; start = b.start ∙ ap (λ v. option_to_list v ++ n ∷ values_of Start uses) (sym p.0) }

none_before : (v u : Option ℕ) (n : ℕ) (ns : List ℕ) → option_to_list u ≡ option_to_list v ++ n ∷ ns → v ≡ None
none_before None u n ns e = refl
none_before (Some x) None n ns e = absurd cc
none_before (Some x) (Some y) n ns e = absurd cc

adds_less : (o : Setting) (text : List ℕ) (n : ℕ) (joined : Bool) (uses : List Use) (g h : Given) → Adds g (use_of o text n joined ∷ uses) h
    → (k : Given) × (with_value g o n ≡ Some k) × Adds k uses h
adds_less Workers text n joined uses g h a =
    let none : g.workers ≡ None = none_before g.workers h.workers n (values_of Workers uses) a.workers in (
      record g { workers = Some n },
      ap (λ (v : Option ℕ). if is_some v then None else Some (record g { workers = Some n })) none,
      record { workers = a.workers ∙ ap (λ v. option_to_list v ++ n ∷ values_of Workers uses) none; count = a.count; start = a.start },
    )
adds_less Count text n joined uses g h a =
    let none : g.count ≡ None = none_before g.count h.count n (values_of Count uses) a.count in (
      record g { count = Some n },
      ap (λ (v : Option ℕ). if is_some v then None else Some (record g { count = Some n })) none,
      record { workers = a.workers; count = a.count ∙ ap (λ v. option_to_list v ++ n ∷ values_of Count uses) none; start = a.start },
    )
adds_less Start text n joined uses g h a =
    let none : g.start ≡ None = none_before g.start h.start n (values_of Start uses) a.start in (
      record g { start = Some n },
      ap (λ (v : Option ℕ). if is_some v then None else Some (record g { start = Some n })) none,
      record { workers = a.workers; count = a.count; start = a.start ∙ ap (λ v. option_to_list v ++ n ∷ values_of Start uses) none },
    )

-- ---- words that are read are written by uses

record Written (g : Given) (ws : List (List ℕ)) (h : Given) : Type 0 where
  uses : List Use
  ending : List (List ℕ)
  ends : (ending ≡ []) ⊎ (ending ≡ codes "--" ∷ [])
  is_written : ws ≡ flat_map use_words uses ++ ending
  have_values : AllByRecursion HasValue uses
  adds : Adds g uses h

record Awaited (o : Setting) (g : Given) (ws : List (List ℕ)) (h : Given) : Type 0 where
  text : List ℕ
  rest : List (List ℕ)
  n : ℕ
  k : Given
  is : ws ≡ text ∷ rest
  value : value_of o text ≡ Some n
  given : with_value g o n ≡ Some k
  written : Written k rest h

abbrev MeaningFrom : Place → Given → List (List ℕ) → Given → Type 0
MeaningFrom Open g ws h = Written g ws h
MeaningFrom (Awaits o) g ws h = Awaited o g ws h
MeaningFrom Ended g ws h = (ws ≡ []) × (h ≡ g)

one_more : (o : Setting) (text : List ℕ) (n : ℕ) (joined : Bool) (g k h : Given) (ws : List (List ℕ)) → value_of o text ≡ Some n
    → with_value g o n ≡ Some k → Written k ws h → Written g (use_words (use_of o text n joined) ++ ws) h
one_more o text n joined g k h ws value given r = record {
  uses = use_of o text n joined ∷ r.uses;
  ending = r.ending;
  ends = r.ends;
  is_written = ap (λ rest. use_words (use_of o text n joined) ++ rest) r.is_written
      ∙ sym (append_assoc (use_words (use_of o text n joined)) (flat_map use_words r.uses) r.ending);
  have_values = (value, r.have_values);
  adds = adds_more o text n joined r.uses g k h given r.adds;
}

begun_reads : (g : Given) (w : List ℕ) (ws : List (List ℕ)) (h : Given) (s : State) → MeaningFrom s.place s.given ws h
    → Closing g w s ⊎ (Naming g w s ⊎ Joining g w s) → Written g (w ∷ ws) h
begun_reads g w ws h s later (inl c) =
    let ended : (ws ≡ []) × (h ≡ g) = subst (λ (t : State). MeaningFrom t.place t.given ws h) c.after later in
    record {
      uses = [];
      ending = codes "--" ∷ [];
      ends = inr refl;
      is_written = ap (λ rest. w ∷ rest) ended.0 ∙ ap (λ x. x ∷ []) c.is;
      have_values = tt;
      adds = adds_none g h ended.1;
    }
begun_reads g w ws h s later (inr (inl m)) =
    let r : Awaited m.o g ws h = subst (λ (t : State). MeaningFrom t.place t.given ws h) m.after later in
    let same : w ∷ ws ≡ use_words (use_of m.o r.text r.n false) ++ r.rest = ap (λ rest. w ∷ rest) r.is ∙ ap (λ x. x ∷ r.text ∷ r.rest) m.is in
    subst (λ x. Written g x h) (sym same) (one_more m.o r.text r.n false g r.k h r.rest r.value r.given r.written)
begun_reads g w ws h s later (inr (inr j)) =
    let v = j.valued in
    let r : Written v.k ws h = subst (λ (t : State). MeaningFrom t.place t.given ws h) v.after later in
    let same : w ∷ ws ≡ use_words (use_of j.o j.text v.n true) ++ ws = ap (λ x. x ∷ ws) j.is in
    subst (λ x. Written g x h) (sym same) (one_more j.o j.text v.n true g v.k h ws v.value v.given r)

step_reads : (p : Place) (g : Given) (w : List ℕ) (ws : List (List ℕ)) (h : Given) (s : State) → stepped p g w ≡ Some s
    → MeaningFrom s.place s.given ws h → MeaningFrom p g (w ∷ ws) h
step_reads Open g w ws h s e later = begun_reads g w ws h s later (begun_by g w s (bytes_eq w (codes "--")) refl e)
step_reads (Awaits o) g w ws h s e later =
    let v = taken-is g o w s e in
    let r : Written v.k ws h = subst (λ (t : State). MeaningFrom t.place t.given ws h) v.after later in
    record { text = w; rest = ws; n = v.n; k = v.k; is = refl; value = v.value; given = v.given; written = r }
step_reads Ended g w ws h s e later = absurd cc

end_reads : (p : Place) (g h : Given) → ended p g ≡ Some h → MeaningFrom p g [] h
end_reads Open g h e =
    let same : h ≡ g = cc in
    record { uses = []; ending = []; ends = inl refl; is_written = refl; have_values = tt; adds = adds_none g h same }
end_reads (Awaits o) g h e = absurd cc
end_reads Ended g h e = (refl, let same : h ≡ g = cc in same)

reads : (p : Place) (g : Given) (ws : List (List ℕ)) (h : Given) → option_and_then end (walked (record { place = p; given = g }) ws) ≡ Some h
    → MeaningFrom p g ws h
unfolding step
reads p g [] h e = end_reads p g h e
reads p g (w ∷ ws) h e =
    let s : State = record { place = p; given = g } in
    let a = and_then-some end (option_and_then (λ t. walked t ws) (step s w)) h e in
    let b = and_then-some (λ t. walked t ws) (step s w) a.0 a.1 in
    step_reads p g w ws h b.0 b.1 (reads b.0.place b.0.given ws h (ap (option_and_then end) b.2 ∙ a.2))

-- ---- words that are written by uses are read

taken-value : (o : Setting) (text : List ℕ) (n : ℕ) (g k : Given) → value_of o text ≡ Some n → with_value g o n ≡ Some k
    → taken g o text ≡ Some (opened k)
unfolding taken
taken-value o text n g k e f = ap (option_and_then (λ m. option_map opened (with_value g o m))) e ∙ ap (option_map opened) f

step-word : (g : Given) (o : Setting) → step (opened g) (setting_word o) ≡ Some (record { place = Awaits o; given = g })
unfolding step setting_called
step-word g Workers = refl
step-word g Count = refl
step-word g Start = refl

step-joined : (g : Given) (o : Setting) (text : List ℕ) → step (opened g) (setting_word o ++ codes "=" ++ text) ≡ taken g o text
unfolding step setting_called
step-joined g Workers text =
    ap (option_and_then (λ (p : List ℕ × List ℕ). option_and_then (λ o. taken g o p.1) (setting_called p.0))) (cut-joined Workers text)
step-joined g Count text =
    ap (option_and_then (λ (p : List ℕ × List ℕ). option_and_then (λ o. taken g o p.1) (setting_called p.0))) (cut-joined Count text)
step-joined g Start text =
    ap (option_and_then (λ (p : List ℕ × List ℕ). option_and_then (λ o. taken g o p.1) (setting_called p.0))) (cut-joined Start text)

step-value : (g : Given) (o : Setting) (text : List ℕ) → step (record { place = Awaits o; given = g }) text ≡ taken g o text
unfolding step
step-value g o text = refl

use_walks : (o : Setting) (text : List ℕ) (n : ℕ) (joined : Bool) (g k : Given) (rest : List (List ℕ)) → value_of o text ≡ Some n
    → with_value g o n ≡ Some k → walked (opened g) (use_words (use_of o text n joined) ++ rest) ≡ walked (opened k) rest
use_walks o text n true g k rest e f =
    ap (option_and_then (λ t. walked t rest)) (step-joined g o text ∙ taken-value o text n g k e f)
use_walks o text n false g k rest e f =
    ap (option_and_then (λ t. walked t (text ∷ rest))) (step-word g o)
    ∙ ap (option_and_then (λ t. walked t rest)) (step-value g o text ∙ taken-value o text n g k e f)

end_walks : (ending : List (List ℕ)) (g : Given) → (ending ≡ []) ⊎ (ending ≡ codes "--" ∷ []) → option_and_then end (walked (opened g) ending) ≡ Some g
unfolding step
end_walks ending g (inl e) = ap (λ ws. option_and_then end (walked (opened g) ws)) e
end_walks ending g (inr e) = ap (λ ws. option_and_then end (walked (opened g) ws)) e

uses_walk : (uses : List Use) (ending : List (List ℕ)) (g h : Given) → (ending ≡ []) ⊎ (ending ≡ codes "--" ∷ []) → AllByRecursion HasValue uses
    → Adds g uses h → option_and_then end (walked (opened g) (flat_map use_words uses ++ ending)) ≡ Some h
uses_walk [] ending g h ends values adds = end_walks ending g ends ∙ ap Some (none_added g h adds)
uses_walk (u ∷ us) ending g h ends values adds =
    let less = adds_less u.setting u.text u.value u.is_joined us g h adds in
    ap (λ ws. option_and_then end (walked (opened g) ws)) (append_assoc (use_words u) (flat_map use_words us) ending)
    ∙ ap (option_and_then end) (use_walks u.setting u.text u.value u.is_joined g less.0 (flat_map use_words us ++ ending) values.0 less.1)
    ∙ uses_walk us ending less.0 h ends values.1 less.2

-- ---- lines

set_of : (o : Setting) (uses : List Use) (v : Option ℕ) → option_to_list v ≡ values_of o uses → IsSet o uses (unwrap_or v (default_value o))
set_of o uses None e = inr (sym e, refl)
set_of o uses (Some n) e = inl (sym e)

of_set : (o : Setting) (uses : List Use) (n : ℕ) → IsSet o uses n
    → (v : Option ℕ) × (option_to_list v ≡ values_of o uses) × (unwrap_or v (default_value o) ≡ n)
of_set o uses n (inl e) = (Some n, sym e, refl)
of_set o uses n (inr e) = (None, sym e.0, sym e.1)

-- what is read as a line is one
pub line-is : (words : List (List ℕ)) (l : Line) → line_of words ≡ Some l → IsLine words l
line-is [] l h = absurd cc
line-is (w ∷ ws) l h =
    let a = and_then-some (λ mode. option_map (line_with mode) (options_of ws)) (mode_called w) l h in
    let b = map-some (line_with a.0) (options_of ws) l a.2 in
    let r : Written start.given ws b.0 = reads Open start.given ws b.0 b.1 in
    subst (IsLine (w ∷ ws)) b.2 (record {
      uses = r.uses;
      ending = r.ending;
      ends = r.ends;
      is_written = ap (λ x. x ∷ ws) (mode_called-is w a.0 a.1) ∙ ap (λ rest. mode_word a.0 ∷ rest) r.is_written;
      have_values = r.have_values;
      workers = set_of Workers r.uses b.0.workers r.adds.workers;
      count = set_of Count r.uses b.0.count r.adds.count;
      start = set_of Start r.uses b.0.start r.adds.start;
    })

abbrev line_by : Mode → ℕ → ℕ → ℕ → Line
line_by m a b d = record { mode = m; workers = a; count = b; start = d }

-- what is a line is read as it
pub line_of-line : (words : List (List ℕ)) (l : Line) → IsLine words l → line_of words ≡ Some l
line_of-line words l i =
    let w = of_set Workers i.uses l.workers i.workers in
    let c = of_set Count i.uses l.count i.count in
    let s = of_set Start i.uses l.start i.start in
    let g : Given = given_of w.0 c.0 s.0 in
    let adds : Adds start.given i.uses g = record { workers = w.1; count = c.1; start = s.1 } in
    let rest : List (List ℕ) = flat_map use_words i.uses ++ i.ending in
    let same : line_with l.mode g ≡ l
    = ap (λ x. line_by l.mode x (unwrap_or c.0 10) (unwrap_or s.0 0)) w.2 ∙ ap (λ x. line_by l.mode l.workers x (unwrap_or s.0 0)) c.2 ∙ ap (λ x. line_by l.mode l.workers l.count x) s.2 in
    ap line_of i.is_written
    ∙ ap (option_and_then (λ mode. option_map (line_with mode) (options_of rest))) (mode_called-word l.mode)
    ∙ ap (option_map (line_with l.mode)) (uses_walk i.uses i.ending start.given g i.ends i.have_values adds)
    ∙ ap Some same

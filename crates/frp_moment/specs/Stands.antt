-- What stands while a moment is settled, over any nodes by their places, their rows and their links.
use Rattle.std.specs.Prelude.{◌≡◌, ℕ, ◌<◌, ◌≤◌, ◌==◌, nat_le, not, Bool, true, false, ◌&&◌, ◌||◌, List, Option, Some, None, if◌then◌else◌}
use Rattle.std.specs.List.{list_any}
use Rattle.frp_base.specs.declared.val.Val.{Val}
use Rattle.frp_rank.specs.Order.{LeadsLower}

-- whether a place is one of these, and whether it is this one
abbrev pub is_among : List ℕ → ℕ → Bool
is_among ns n = list_any (λ k. k == n) ns

abbrev pub is_place : Option ℕ → ℕ → Bool
is_place None n = false
is_place (Some m) n = m == n

-- the occurrences so far, by place
abbrev pub Facts : Type 0
Facts = ℕ → Option Val

-- The nodes of a moment: which are live, which may fire though no link of theirs does, their rows, and their links of During. A
-- link is firm where it is one whatever fires; a node has at most one other, its inner one, which the facts choose.
pub record Ground : Type 0 where
  pub live : ℕ → Bool
  pub started : ℕ → Bool
  pub row : Facts → ℕ → Option Val
  pub firm : ℕ → List ℕ
  pub inner : Facts → ℕ → Option ℕ

-- the links of During, as things stand
abbrev pub is_link : Ground → Facts → ℕ → ℕ → Bool
is_link g f x n = is_among (g.firm x) n || is_place (g.inner f x) n

-- What the shapes owe: a row and an inner link look at links alone, and nothing fires without a start or a link that fires.
pub record IsGround (g : Ground) : Type 0 where
  pub row_reads : (f h : Facts) (x : ℕ) → ((n : ℕ) → is_link g f x n ≡ true → f n ≡ h n) → g.row f x ≡ g.row h x
  pub inner_reads : (f h : Facts) (x : ℕ) → ((n : ℕ) → is_among (g.firm x) n ≡ true → f n ≡ h n) → g.inner f x ≡ g.inner h x
  pub row_none : (f : Facts) (x : ℕ) → g.started x ≡ false → ((n : ℕ) → is_link g f x n ≡ true → f n ≡ None) → g.row f x ≡ None

-- The known nodes are settled, the queued ones are still to be taken, and the loose ones have no inner link in the ranks.
pub record State : Type 0 where
  pub facts : Facts
  pub rank : ℕ → ℕ
  pub kept : ℕ → ℕ → Bool
  pub known : ℕ → Bool
  pub queued : ℕ → Bool
  pub loose : ℕ → Bool

-- the links of a node that the ranks keep
abbrev pub holds : Ground → State → ℕ → ℕ → Bool
holds g s x n = is_among (g.firm x) n || (not (s.loose x) && is_place (g.inner s.facts x) n)

-- What each step keeps: the known nodes meet their rows, and nothing else has fired; the kept links lead to lower ranks, and are
-- exactly the firm ones with the inner ones of the nodes that are not loose; and a node that is neither known nor queued has no
-- start, and no link to a node that fires.
pub record Stands (g : Ground) (s : State) : Type 0 where
  pub meets : (x : ℕ) → g.live x ≡ true → s.known x ≡ true → s.facts x ≡ g.row s.facts x
  pub silent : (n : ℕ) → g.live n ≡ true → s.known n ≡ false → s.facts n ≡ None
  pub only_live : (n : ℕ) → g.live n ≡ false → s.facts n ≡ None
  pub down : (n m : ℕ) → g.live n ≡ true → g.live m ≡ true → s.known n ≡ true → s.rank m ≤ s.rank n → s.known m ≡ true
  pub lower : LeadsLower s.kept s.rank
  pub inside : (x n : ℕ) → g.live x ≡ true → s.kept x n ≡ true → g.live n ≡ true
  pub links : (x n : ℕ) → g.live x ≡ true → s.kept x n ≡ holds g s x n
  pub loose_new : (x : ℕ) → g.live x ≡ true → s.loose x ≡ true → s.known x ≡ false
  pub queued_live : (x : ℕ) → s.queued x ≡ true → g.live x ≡ true
  pub queued_new : (x : ℕ) → s.queued x ≡ true → s.known x ≡ false
  pub calm : (x : ℕ) → g.live x ≡ true → s.known x ≡ false → s.queued x ≡ false → g.started x ≡ false
  pub quiet : (x n : ℕ) → g.live x ≡ true → s.known x ≡ false → s.queued x ≡ false → is_link g s.facts x n ≡ true → s.facts n ≡ None

-- A rank is taken: no queued node and no loose one has a lower rank, and the queued ones of this rank get the occurrences
-- of their rows.
pub record Takes (g : Ground) (s : State) (r : ℕ) (batch : ℕ → Bool) (next : State) : Type 0 where
  pub all : (x : ℕ) → s.queued x ≡ true → s.rank x ≡ r → batch x ≡ true
  pub queued : (x : ℕ) → batch x ≡ true → (s.queued x ≡ true) × (s.rank x ≡ r)
  pub least : (x : ℕ) → s.queued x ≡ true → r ≤ s.rank x
  pub same_rank : (x : ℕ) → next.rank x ≡ s.rank x
  pub same_kept : (x n : ℕ) → next.kept x n ≡ s.kept x n
  pub same_loose : (x : ℕ) → next.loose x ≡ s.loose x
  pub facts : (x : ℕ) → next.facts x ≡ (if batch x then g.row s.facts x else s.facts x)
  pub known : (x : ℕ) → g.live x ≡ true → next.known x ≡ nat_le (s.rank x) r
  pub above : (x : ℕ) → g.live x ≡ true → s.known x ≡ true → s.rank x ≤ r
  pub loose : (x : ℕ) → g.live x ≡ true → s.loose x ≡ true → next.known x ≡ false
  -- each node that one of the batch wakes is queued, and the others stay so
  pub next_live : (x : ℕ) → next.queued x ≡ true → g.live x ≡ true
  pub next_new : (x : ℕ) → next.queued x ≡ true → next.known x ≡ false
  pub stays : (x : ℕ) → s.queued x ≡ true → batch x ≡ false → next.queued x ≡ true
  pub wakes : (x n : ℕ) → g.live x ≡ true → next.known x ≡ false → batch n ≡ true → is_link g s.facts x n ≡ true → next.queued x ≡ false → g.row s.facts n ≡ None
  -- an inner link that would become another one was dropped before
  pub turned : (x : ℕ) → g.live x ≡ true → s.loose x ≡ false → g.inner next.facts x ≡ g.inner s.facts x

abbrev pub TakingKeeps : Type 0
TakingKeeps = (g : Ground) (s : State) (r : ℕ) (batch : ℕ → Bool) (next : State) → IsGround g → Stands g s → Takes g s r batch next → Stands g next

-- The inner link of a node that isn't known is dropped, unless it is a firm one too.
pub record Loosens (g : Ground) (s : State) (y : ℕ) (next : State) : Type 0 where
  pub lives : g.live y ≡ true
  pub unknown : s.known y ≡ false
  pub tight : s.loose y ≡ false
  pub same_facts : (x : ℕ) → next.facts x ≡ s.facts x
  pub same_rank : (x : ℕ) → next.rank x ≡ s.rank x
  pub same_known : (x : ℕ) → next.known x ≡ s.known x
  pub same_queued : (x : ℕ) → next.queued x ≡ s.queued x
  pub loose : (x : ℕ) → next.loose x ≡ (if y == x then true else s.loose x)
  pub kept : (x k : ℕ) → next.kept x k ≡ (if y == x && (is_place (g.inner s.facts y) k && not (is_among (g.firm y) k)) then false else s.kept x k)

-- A loose node gets its inner link.
pub record Tightens (g : Ground) (s : State) (y : ℕ) (next : State) : Type 0 where
  pub lives : g.live y ≡ true
  pub end_lives : (k : ℕ) → is_place (g.inner s.facts y) k ≡ true → g.live k ≡ true
  pub same_facts : (x : ℕ) → next.facts x ≡ s.facts x
  pub same_known : (x : ℕ) → g.live x ≡ true → next.known x ≡ s.known x
  pub same_queued : (x : ℕ) → next.queued x ≡ s.queued x
  pub loose : (x : ℕ) → next.loose x ≡ (if y == x then false else s.loose x)
  pub kept : (x k : ℕ) → next.kept x k ≡ (if y == x && is_place (g.inner s.facts y) k then true else s.kept x k)
  pub lower : LeadsLower next.kept next.rank
  pub down : (k m : ℕ) → g.live k ≡ true → g.live m ≡ true → next.known k ≡ true → next.rank m ≤ next.rank k → next.known m ≡ true

abbrev pub LooseningKeeps : Type 0
LooseningKeeps = (g : Ground) (s : State) (y : ℕ) (next : State) → IsGround g → Stands g s → Loosens g s y next → Stands g next

abbrev pub TighteningKeeps : Type 0
TighteningKeeps = (g : Ground) (s : State) (y : ℕ) (next : State) → IsGround g → Stands g s → Tightens g s y next → Stands g next

-- Nodes come to life together, whose links are kept already.
pub record Births (g more : Ground) (s : State) (new : ℕ → Bool) (next : State) : Type 0 where
  pub live : (x : ℕ) → more.live x ≡ (new x || g.live x)
  pub dead : (x : ℕ) → g.live x ≡ true → new x ≡ false
  pub rows : (x : ℕ) → g.live x ≡ true → s.known x ≡ true → more.row s.facts x ≡ g.row s.facts x
  pub firms : (x n : ℕ) → g.live x ≡ true → is_among (more.firm x) n ≡ is_among (g.firm x) n
  pub inners : (x : ℕ) → g.live x ≡ true → more.inner s.facts x ≡ g.inner s.facts x
  pub starts : (x : ℕ) → g.live x ≡ true → more.started x ≡ g.started x
  pub unknown : (x : ℕ) → new x ≡ true → next.known x ≡ false
  pub same_facts : (x : ℕ) → next.facts x ≡ s.facts x
  pub same_known : (x : ℕ) → g.live x ≡ true → next.known x ≡ s.known x
  pub queued : (x : ℕ) → next.queued x ≡ (new x || s.queued x)
  pub loose : (x : ℕ) → g.live x ≡ true → next.loose x ≡ s.loose x
  pub same_kept : (x n : ℕ) → g.live x ≡ true → next.kept x n ≡ s.kept x n
  pub its_links : (x n : ℕ) → new x ≡ true → next.kept x n ≡ holds more next x n
  pub its_inside : (x n : ℕ) → new x ≡ true → next.kept x n ≡ true → more.live n ≡ true
  pub lower : LeadsLower next.kept next.rank
  pub down : (k m : ℕ) → more.live k ≡ true → more.live m ≡ true → next.known k ≡ true → next.rank m ≤ next.rank k → next.known m ≡ true

abbrev pub BirthKeeps : Type 0
BirthKeeps = (g more : Ground) (s : State) (new : ℕ → Bool) (next : State) → IsGround g → IsGround more → Stands g s → Births g more s new next → Stands more next

-- all is settled
pub record Settled (g : Ground) (s : State) : Type 0 where
  pub meets : (x : ℕ) → g.live x ≡ true → s.facts x ≡ g.row s.facts x
  pub links : (x n : ℕ) → g.live x ≡ true → s.kept x n ≡ is_link g s.facts x n
  pub lower : LeadsLower s.kept s.rank

abbrev pub EndSettles : Type 0
EndSettles = (g : Ground) (s : State) → IsGround g → Stands g s → ((x : ℕ) → s.queued x ≡ false) → ((x : ℕ) → s.loose x ≡ false) → Settled g s

-- what evidence of a refused moment asks of the settled nodes, and of its facts
pub record Shown (g : Ground) (s : State) : Type 0 where
  pub meets : (x : ℕ) → g.live x ≡ true → s.known x ≡ true → s.facts x ≡ g.row s.facts x
  pub below : (x : ℕ) → s.known x ≡ false → g.live x ≡ true → s.facts x ≡ None
  pub lower : (x n : ℕ) → g.live x ≡ true → s.known x ≡ true → is_link g s.facts x n ≡ true → s.rank n < s.rank x

abbrev pub EvidenceShows : Type 0
EvidenceShows = (g : Ground) (s : State) → Stands g s → Shown g s

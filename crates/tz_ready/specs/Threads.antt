-- How lists are threaded through tables by number. A node is a slot, or the head of a list, which stands behind the
-- slots; `after` leads from a node to the next slot of its list, `before` from a slot to the node before it.
use Rattle.std.specs.Prelude.{◌≡◌, ◌⊎◌, ℕ, zero, suc, ◌+◌, ◌<◌, ◌≤◌, nat_lt, Bool, true, if◌then◌else◌, List, [], ◌∷◌, slice_index, Option, Some, length, is_some}
use Rattle.std.specs.List.{count_by}
use Rattle.tz_table.specs.declared.units.Side.{Side}
use Rattle.tz_table.specs.declared.units.Side.TheVariants.{Secure, NonSecure}
use Rattle.tz_ready.specs.declared.queue.Queue.{Queue}
use Rattle.tz_ready.specs.declared.ready.Ready.TheInside.{Inside}
use Rattle.tz_ready.specs.Levels.{is_set}
use Rattle.tz_ready.specs.Links.{slots, queue_of}

-- the number of a list among those of both sides
abbrev pub number_by : ℕ → Side → ℕ
number_by level Secure = level
number_by level NonSecure = 256 + level

abbrev pub number_of : Queue → ℕ
number_of q = number_by q.level q.side

-- the words of bits up to the last list of a side
abbrev pub words_to : Side → ℕ
words_to Secure = 8
words_to NonSecure = 16

-- the head of a list among the nodes
abbrev pub head_of : Queue → ℕ
head_of q = slots + number_of q

-- the first slot that may follow a node
abbrev pub behind : ℕ → ℕ
behind m = if nat_lt m slots then m + 1 else 0

-- n is the first slot of a list from i on; behind the last slot where there is none
pub record IsNext (f : ℕ → Option Queue) (q : Queue) (i n : ℕ) : Type 0 where
  pub from : i ≤ n
  pub few : n ≤ slots
  pub there : n < slots → f n ≡ Some q
  pub none : (j : ℕ) → i ≤ j → j < n → f j ≡ Some q → ⊥

-- m is the last slot of a list below i; the head of the list where there is none
pub record IsLast (f : ℕ → Option Queue) (q : Queue) (i m : ℕ) : Type 0 where
  pub node : (m < slots) ⊎ (m ≡ head_of q)
  pub below : behind m ≤ i
  pub there : m < slots → f m ≡ Some q
  pub none : (j : ℕ) → behind m ≤ j → j < i → f j ≡ Some q → ⊥

-- what the head of a list leads to: nothing where the bit of the list isn't set
abbrev pub first_in : (ℕ → Bool) → (ℕ → ℕ) → Queue → ℕ
first_in set after q = if set (number_of q) then after (head_of q) else slots

-- the tables thread each list through its slots, in ascending number; the bit of a list is set where it isn't empty
pub record Threads (f : ℕ → Option Queue) (after before : ℕ → ℕ) (set : ℕ → Bool) : Type 0 where
  pub few : (i : ℕ) (q : Queue) → f i ≡ Some q → (i < slots) × (q.level < 256)
  pub heads : (q : Queue) → q.level < 256 → IsNext f q 0 (first_in set after q)
  pub some : (q : Queue) → q.level < 256 → set (number_of q) ≡ true → after (head_of q) < slots
  pub next : (i : ℕ) (q : Queue) → f i ≡ Some q → IsNext f q (i + 1) (after i)
  pub last : (i : ℕ) (q : Queue) → f i ≡ Some q → IsLast f q i (before i)

-- the slots of a list from i on, in ascending number: the first of them, and those behind it
abbrev pub AreFrom : (ℕ → Option Queue) → Queue → ℕ → List ℕ → Type 0
AreFrom f q i [] = IsNext f q i slots
AreFrom f q i (n ∷ ns) = IsNext f q i n × (n < slots) × AreFrom f q (n + 1) ns

-- at most k slots that the table leads through, from one on
unfoldable pub walk : ℕ → (ℕ → ℕ) → ℕ → List ℕ
walk zero after n = []
walk (suc k) after n = if nat_lt n slots then n ∷ walk k after (after n) else []

-- what holds of the tables
pub record Holds (r : Inside) : Type 0 where
  pub queues : length r.queues ≡ slots
  pub after : length r.after ≡ 784
  pub before : length r.before ≡ 273
  pub threads : Threads (queue_of r.queues) (λ i. slice_index r.after i) (λ i. slice_index r.before i) (is_set r.levels.words)
  pub count : r.count ≡ count_by (λ q. is_some q) r.queues

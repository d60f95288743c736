-- The rule of a queue in order: what was put is what was taken, in order, and then what the queue holds. A pass has a
-- number, by which logs name it. It knows what it put and what it took, and how much it may still put. Pass 0 makes the
-- others, and takes them back in their order. Only when all are back does it take items itself.
use Rattle.std.specs.Prelude.{◌≡◌, ℕ, suc, ◌+◌, ◌-◌, ◌≤◌, ◌<◌, ◌==◌, ◌⊎◌, Bool, true, false, List, [], ◌∷◌, ◌++◌, map, length, slice_index_or, if◌then◌else◌}
use mathlib.Core.Option.{some}
use lib.ListN.{get_elem?}
use Rattle.job_board.specs.declared.view.View.{View}

module _ {X : Type 0} where
  -- what one pass has in a log of passes and items
  abbrev pub part : ℕ → List (ℕ × X) → List X
  part k [] = []
  part k (e ∷ es) = if e.0 == k then e.1 ∷ part k es else part k es

  -- the items of a log
  abbrev pub items_of : List (ℕ × X) → List X
  items_of log = map (λ e. e.1) log

  -- each item as one of pass 0
  abbrev pub by_first : List X → List (ℕ × X)
  by_first xs = map (λ x. (0, x)) xs

  abbrev pub total_cost : (X → ℕ) → List X → ℕ
  total_cost cost [] = 0
  total_cost cost (x ∷ xs) = cost x + total_cost cost xs

  abbrev pub new_view : ℕ → ℕ → Bool → ℕ → ℕ → ℕ → ℕ → List X → List X → List (List X × List X) → View X
  new_view number made spent capacity limit items_left cost_left put taken returned = record { number = number; made = made; spent = spent; capacity = capacity; limit = limit; items_left = items_left; cost_left = cost_left; put = put; taken = taken; returned = returned }

  -- pass 0 before the first split, which sets the bounds
  abbrev pub root : View X
  root = new_view 0 1 false 0 0 0 0 [] [] []

  -- pass 0 after a split, of which the new pass may put this many items
  abbrev pub after_split : ℕ → ℕ → ℕ → View X → View X
  after_split capacity limit items v = new_view v.number (v.made + 1) v.spent capacity limit ((if v.made == 1 then capacity else v.items_left) - items) (if v.made == 1 then limit else v.cost_left) v.put v.taken v.returned

  abbrev pub split_off : ℕ → ℕ → ℕ → View X → View X
  split_off capacity limit items v = new_view v.made 0 false capacity limit items 0 [] [] []

  abbrev pub after_join : View X → View X → View X
  after_join v w = new_view v.number v.made v.spent v.capacity v.limit (v.items_left + w.items_left) (v.cost_left + w.cost_left) v.put v.taken (v.returned ++ (w.put, w.taken) ∷ [])

  abbrev pub spent_view : View X
  spent_view = new_view 0 0 true 0 0 0 0 [] [] []

  abbrev pub after_put : (X → ℕ) → View X → X → View X
  after_put cost v x = new_view v.number v.made v.spent v.capacity v.limit (v.items_left - 1) (v.cost_left - cost x) (v.put ++ x ∷ []) v.taken v.returned

  abbrev pub after_take : View X → X → View X
  after_take v x = new_view v.number v.made v.spent v.capacity v.limit v.items_left v.cost_left v.put (v.taken ++ x ∷ []) v.returned

  abbrev pub total : (View X → ℕ) → List (View X) → ℕ
  total f [] = 0
  total f (v ∷ vs) = f v + total f vs

  -- the pass was taken back
  abbrev pub IsSpent : List (View X) → ℕ → Type 0
  IsSpent views k = (u : View X) × (get_elem? views k ≡ some u) × (u.spent ≡ true)

  -- what a pass knows is so
  pub record Fits (puts takes : List (ℕ × X)) (most_items most_cost : ℕ) (k : ℕ) (v : View X) : Type 0 where
    pub number : v.number ≡ k
    pub put : v.put ≡ part k puts
    pub taken : v.taken ≡ part k takes
    pub capacity : v.capacity ≡ most_items
    pub limit : v.limit ≡ most_cost

  pub record InOrder (cost : X → ℕ) (items : List X) (views : List (View X)) : Type 0 where
    pub puts : List (ℕ × X)
    pub takes : List (ℕ × X)
    -- the takes before those of pass 0
    pub old : List (ℕ × X)
    pub first : View X
    pub capacity : ℕ
    pub limit : ℕ
    pub chain : items_of puts ≡ items_of takes ++ items
    pub first_is : get_elem? views 0 ≡ some first
    pub alive : first.spent ≡ false
    pub made : first.made ≡ length views
    pub returned : (k : ℕ) → k < length first.returned → IsSpent views (suc k) × (slice_index_or first.returned k ([], []) ≡ (part (suc k) puts, part (suc k) takes))
    pub tail : takes ≡ old ++ by_first first.taken
    pub last : (first.taken ≡ []) ⊎ (first.made ≤ suc (length first.returned))
    pub each : (k : ℕ) (v : View X) → get_elem? views k ≡ some v → v.spent ≡ false → Fits puts takes capacity limit k v
    pub beyond : (k : ℕ) → length views ≤ k → (part k puts ≡ []) × (part k takes ≡ [])
    pub within : total (λ v. v.items_left) views + length puts ≤ capacity
    pub costs : total (λ v. v.cost_left) views + total_cost cost (items_of puts) ≤ limit

  -- at one moment what was put is what was taken and these items, in order, and of it the pass has put and taken what
  -- it knows
  abbrev pub IsPartOf : View X → List X → Type 0
  IsPartOf v items = (puts takes : List (ℕ × X)) × (items_of puts ≡ items_of takes ++ items) × (part v.number puts ≡ v.put) × (part v.number takes ≡ v.taken)

  -- what was put is what was taken, in order, and then the rest. What pass k put and took is at index k of the parts
  abbrev pub History : List (List X × List X) → List X → Type 0
  History parts rest = (puts : List (ℕ × X)) × (takes : List (ℕ × X)) × (items_of puts ≡ items_of takes ++ rest) × ((k : ℕ) → slice_index_or parts k ([], []) ≡ (part k puts, part k takes))

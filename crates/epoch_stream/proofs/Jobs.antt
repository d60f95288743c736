-- Jobs and offers.
use Rattle.std.proofs.Common.{◌≡◌, ℕ, zero, suc, ◌+◌, ◌-◌, ◌≤◌, ◌<◌, ◌⊎◌, inl, inr, ⊎_elim, Bool, true, false, List, [], ◌∷◌, ◌++◌, take, length, length-append, Option, None, Some, sym, refl, ap, ◌∙◌, subst, arith}
use Rattle.std.specs.Prelude.{slice_get, Result, Ok, Err}
use Rattle.epoch_pool.specs.declared.job.Job.{Job}
use Rattle.epoch_stream.specs.Deposits.{In}
use Rattle.epoch_stream.specs.Offers.{AreFirstOf, AreJobs, HasClosed, HasEnough, bounds_for, first_after_jobs, offers_of, offers_within, opening, whole_of}
use Rattle.epoch_stream.specs.Racers.{AreMade}
use Rattle.epoch_stream.proofs.Handing.{not_ok}
use Rattle.guest_kernel.specs.declared.state.State.{State}
use Rattle.dp_base.specs.declared.out_of_memory.OutOfMemory.{OutOfMemory}
use Rattle.racing_runner.specs.declared.offer.Offer.{Offer}
use Rattle.racing_runner.specs.Offers.{HasOffered, IfTold}
use Rattle.racing_runner.specs.declared.plan.Plan.{Plan}
use Rattle.sync_hints.specs.declared.hints.Hints.{Hints}
use Rattle.sync_hints.specs.NoHints.{no_hints}

-- ---- one more job

pub opening_more : (js : List (ℕ × Job)) (x : ℕ × Job) (next : State) → opening (js ++ x ∷ []) next ≡ opening js x.1.start
opening_more [] x next = refl
opening_more (y ∷ ys) x next = refl

offers_more : (js : List (ℕ × Job)) (x : ℕ × Job) (next : State) → offers_of (js ++ x ∷ []) next ≡ offers_of js x.1.start ++ record { hints = x.1.hints; next = next } ∷ []
offers_more [] x next = refl
offers_more (y ∷ ys) x next = (λ i. record { hints = y.1.hints; next = opening_more ys x next i } ∷ offers_more ys x next i)

-- what a desk has got after an offer
pub got_more : (js js' : List (ℕ × Job)) (x : ℕ × Job) (s n : State) → js' ≡ js ++ x ∷ [] → x.1.start ≡ s → offers_of js' n ≡ offers_of js s ++ record { hints = x.1.hints; next = n } ∷ []
got_more js js' x s n more start = ap (λ l. offers_of l n) more ∙ offers_more js x n ∙ ap (λ (t : State). offers_of js t ++ record { hints = x.1.hints; next = n } ∷ []) start

-- and after an offer of these hints and this state
pub offered : (js js' : List (ℕ × Job)) (job : Job) (s n next : State) (hints : Hints) → js' ≡ js ++ (length js + 1, job) ∷ [] → job.start ≡ s → job.hints ≡ hints → n ≡ next → offers_of js' n ≡ offers_of js s ++ record { hints = hints; next = next } ∷ []
offered js js' job s n next hints more start hint after = got_more js js' (length js + 1, job) s n more start ∙ (λ i. offers_of js s ++ record { hints = hint i; next = after i } ∷ [])

behind_one : (js : List (ℕ × Job)) → first_after_jobs 1 js ≡ 1
behind_one [] = refl
behind_one (x ∷ xs) = refl

pub jobs_more : (plan : Plan) (limit k first n : ℕ) (js : List (ℕ × Job)) (x : ℕ × Job) → AreJobs plan limit k first js → n ≡ k + length js → x.0 ≡ n → x.1.index ≡ n
    → x.1.bounds ≡ bounds_for plan limit (first_after_jobs first js) x.1.start → AreJobs plan limit k first (js ++ x ∷ [])
jobs_more plan limit k first n [] x all is at index bounds = let e : n ≡ k = omega (arith, is) in (at ∙ e, index ∙ e, bounds, tt)
jobs_more plan limit k first n (y ∷ ys) x all is at index bounds = (
  all.0,
  all.1,
  all.2,
  jobs_more plan limit (suc k) 1 n ys x all.3 (omega (arith, is)) at index (bounds ∙ ap (λ m. bounds_for plan limit m x.1.start) (sym (behind_one ys))),
)

pub jobs_step : (plan : Plan) (limit first f n : ℕ) (js js' : List (ℕ × Job)) (x : ℕ × Job) → AreJobs plan limit 1 first js → js' ≡ js ++ x ∷ [] → n ≡ length js + 1 → x.0 ≡ length js + 1 → x.1.index ≡ n
    → f ≡ first_after_jobs first js → x.1.bounds ≡ bounds_for plan limit f x.1.start → AreJobs plan limit 1 first js'
jobs_step plan limit first f n js js' x all more is at index f_is bounds =
    subst (λ l. AreJobs plan limit 1 first l) (sym more) (jobs_more plan limit 1 first n js x all (omega (arith, is)) (at ∙ sym is) index (bounds ∙ ap (λ m. bounds_for plan limit m x.1.start) f_is))

pub behind_more : (first : ℕ) (js js' : List (ℕ × Job)) (x : ℕ × Job) → js' ≡ js ++ x ∷ [] → 1 ≡ first_after_jobs first js'
behind_more first js js' x more = sym (ap (first_after_jobs first) more ∙ some js) where
  some : (l : List (ℕ × Job)) → first_after_jobs first (l ++ x ∷ []) ≡ 1
  some [] = refl
  some (y ∷ ys) = refl

pub count_more : (n : ℕ) (js js' : List (ℕ × Job)) (x : ℕ × Job) → n ≡ length js + 1 → js' ≡ js ++ x ∷ [] → n + 1 ≡ length js' + 1
count_more n js js' x is more = let l = ap length more ∙ length-append js (x ∷ []) in omega (arith, l, is)

-- ---- the first jobs of a round

abbrev head_or : {A : Type 0} → A → List A → A
head_or d [] = d
head_or d (x ∷ xs) = x

abbrev tail_of : {A : Type 0} → List A → List A
tail_of [] = []
tail_of (x ∷ xs) = xs

cons_none : {A : Type 0} {x : A} {xs : List A} → x ∷ xs ≡ [] → ⊥
cons_none e = cc

-- jobs that are all ended by offers
pub first_part : (js : List (ℕ × Job)) (last start : State) (list : List Offer) (m : ℕ) → offers_of js last ≡ take m list → opening js last ≡ start → AreFirstOf start list js
first_part [] last start list m got opened = tt
first_part (x ∷ xs) last start list zero got opened = absurd (cons_none got)
first_part (x ∷ xs) last start [] (suc m) got opened = absurd (cons_none got)
first_part (x ∷ xs) last start (o ∷ os) (suc m) got opened =
    let h = ap (head_or o) got in
    (opened, ap (λ (y : Offer). y.hints) h, first_part xs last o.next os m (ap tail_of got) (ap (λ (y : Offer). y.next) h))

-- and the last one, which has no hints
pub first_whole : (js : List (ℕ × Job)) (x : ℕ × Job) (last start : State) (list : List Offer) → offers_of js last ≡ list → opening js last ≡ start → x.1.start ≡ last → x.1.hints ≡ no_hints → AreFirstOf start list (js ++ x ∷ [])
first_whole [] x last start [] got opened at bare = (at ∙ opened, bare)
first_whole [] x last start (o ∷ os) got opened at bare = absurd (cons_none (sym got))
first_whole (y ∷ ys) x last start [] got opened at bare = absurd (cons_none got)
first_whole (y ∷ ys) x last start (o ∷ os) got opened at bare =
    let h = ap (head_or o) got in
    (opened, ap (λ (z : Offer). z.hints) h, first_whole ys x last o.next os (ap tail_of got) (ap (λ (z : Offer). z.next) h) at bare)

offers_length : (js : List (ℕ × Job)) (last : State) → length (offers_of js last) ≡ length js
offers_length [] last = refl
offers_length (x ∷ xs) last = ap suc (offers_length xs last)

take_all_of : {A : Type 0} (xs : List A) (n : ℕ) → length xs ≤ n → take n xs ≡ xs
take_all_of [] zero few = refl
take_all_of [] (suc n) few = refl
take_all_of (x ∷ xs) zero few = absurd (omega (arith, few))
take_all_of (x ∷ xs) (suc n) few = ap (λ l. x ∷ l) (take_all_of xs n (omega (arith, few)))

-- the first n of a list are the first m, if they are so many
take_as_many : {A : Type 0} (n m : ℕ) (xs : List A) → length (take n xs) ≡ m → take n xs ≡ take m xs
take_as_many zero zero xs e = refl
take_as_many zero (suc m) xs e = absurd (omega (arith, e))
take_as_many (suc n) zero [] e = refl
take_as_many (suc n) (suc m) [] e = refl
take_as_many (suc n) zero (x ∷ xs) e = absurd (omega (arith, e))
take_as_many (suc n) (suc m) (x ∷ xs) e = ap (λ l. x ∷ l) (take_as_many n m xs (omega (arith, e)))

take_less : {A : Type 0} (m k : ℕ) (xs : List A) → m ≤ k → take m xs ≡ take m (take k xs)
take_less zero k xs few = refl
take_less (suc m) zero xs few = absurd (omega (arith, few))
take_less (suc m) (suc k) [] few = refl
take_less (suc m) (suc k) (x ∷ xs) few = ap (λ l. x ∷ l) (take_less m k xs (omega (arith, few)))

-- offers that are the first of a list are the first of those within a plan, if they are no more
pub within_part : (plan : Plan) (js : List (ℕ × Job)) (last : State) (list : List Offer) (n : ℕ) → offers_of js last ≡ take n list → length js < plan.jobs → offers_of js last ≡ take (length js) (offers_within plan list)
within_part plan js last list n got few =
    let l = ap length (sym got) ∙ offers_length js last in
    got ∙ take_as_many n (length js) list l ∙ take_less (length js) (plan.jobs - 1) list (omega (arith, few))

-- and they are all of these, if the whole list was offered, or the round has its last job
pub within_whole : (plan : Plan) (js : List (ℕ × Job)) (last : State) (list : List Offer) (n : ℕ) → offers_of js last ≡ take n list → length js < plan.jobs → (length list ≤ n) ⊎ (plan.jobs ≤ length js + 1) → offers_of js last ≡ offers_within plan list
within_whole plan js last list n got few over =
    let l = offers_length js last in
    ⊎_elim
    (λ (h : length list ≤ n).
    let e = take_all_of list n h in let m = ap length (sym e) ∙ ap length (sym got) ∙ l in
    got ∙ e ∙ sym (take_all_of list (plan.jobs - 1) (omega (arith, m, few))))
    (λ (h : plan.jobs ≤ length js + 1).
    let m = ap length (sym got) ∙ l in
    got ∙ take_as_many n (plan.jobs - 1) list (omega (arith, m, h, few)))
    over

-- ---- the jobs of a race that is over

take_few : {A : Type 0} (n : ℕ) (xs : List A) → length (take n xs) ≤ n
take_few zero xs = omega arith
take_few (suc n) [] = omega arith
take_few (suc n) (x ∷ xs) = let h = take_few n xs in omega (arith, h)

pub fewer : (n : ℕ) (xs : List Offer) → 0 < n → length (take (n - 1) xs) < n
fewer n xs some = let h = take_few (n - 1) xs in omega (arith, h, some)

-- each job is ended by an offer
part_made : (told : Option (List Offer)) (plan : Plan) (start last : State) (js all : List (ℕ × Job)) (index : ℕ) (stopped : Bool) (answer : Result (Unit {0}) OutOfMemory) (enough : Type 0)
    → index ≡ length js + 1 → index ≤ plan.jobs → AreJobs plan (start.steps + plan.left) 1 plan.first js → opening js last ≡ start
    → IfTold told (λ list. HasOffered [] list (offers_of js last) enough answer)
    → (answer ≡ Ok tt → stopped ≡ false → ⊥) → all ≡ js → AreMade told plan start all stopped answer
part_made None plan start last js all index stopped answer enough count few jobs opened got never closed =
    let l = offers_length js last in record {
      offers = offers_of js last;
      few = omega (arith, l, count, few);
      first = subst (λ a. AreFirstOf start (offers_of js last) a) (sym closed) (first_part js last start (offers_of js last) (length js) (sym (take_all_of (offers_of js last) (length js) (omega (arith, l)))) opened);
      are_jobs = subst (λ a. AreJobs plan (start.steps + plan.left) 1 plan.first a) (sym closed) jobs;
      all = λ ok going. absurd (never ok going);
      within = tt;
    }
part_made (Some list) plan start last js all index stopped answer enough count few jobs opened got never closed = record {
  offers = offers_within plan list;
  few = fewer plan.jobs list plan.some_jobs;
  first = subst (λ a. AreFirstOf start (offers_within plan list) a) (sym closed) (first_part js last start (offers_within plan list) (length js) (within_part plan js last list got.count got.taken (omega (arith, count, few))) opened);
  are_jobs = subst (λ a. AreJobs plan (start.steps + plan.left) 1 plan.first a) (sym closed) jobs;
  all = λ ok going. absurd (never ok going);
  within = refl;
}

-- and the last one isn't
whole_made : (told : Option (List Offer)) (plan : Plan) (start last : State) (js all : List (ℕ × Job)) (index first : ℕ)
    → index ≡ length js + 1 → index ≤ plan.jobs → AreJobs plan (start.steps + plan.left) 1 plan.first js → first ≡ first_after_jobs plan.first js → opening js last ≡ start
    → IfTold told (λ list. HasOffered [] list (offers_of js last) (HasEnough plan index false) (Ok tt))
    → HasClosed plan (start.steps + plan.left) index first last js all true → AreMade told plan start all false (Ok tt)
whole_made told plan start last js all index first count few jobs first_is opened got closed = by told got where
  limit : ℕ
  limit = start.steps + plan.left

  x : ℕ × Job
  x = (length js + 1, closed.0)

  more : AreJobs plan limit 1 plan.first all
  more = jobs_step plan limit plan.first first index js all x jobs closed.1 count refl closed.2 first_is (closed.3 ∙ ap (bounds_for plan limit first) (sym closed.4))

  lengths : length all ≡ length js + 1
  lengths = ap length closed.1 ∙ length-append js (x ∷ [])

  by : (told : Option (List Offer)) → IfTold told (λ list. HasOffered [] list (offers_of js last) (HasEnough plan index false) (Ok tt)) → AreMade told plan start all false (Ok tt)
  by None got = let l = offers_length js last in record {
    offers = offers_of js last;
    few = omega (arith, l, count, few);
    first = subst (λ a. AreFirstOf start (offers_of js last) a) (sym closed.1) (first_whole js x last start (offers_of js last) refl opened closed.4 closed.5);
    are_jobs = more;
    all = λ ok going. omega (arith, lengths, l);
    within = tt;
  }
  by (Some list) got =
      let few_js : length js < plan.jobs = omega (arith, count, few) in
      let e = within_whole plan js last list got.count got.taken few_js (over got.over) in
      let l = ap length (sym e) ∙ offers_length js last in record {
        offers = offers_within plan list;
        few = fewer plan.jobs list plan.some_jobs;
        first = subst (λ a. AreFirstOf start (offers_within plan list) a) (sym closed.1) (first_whole js x last start (offers_within plan list) e opened closed.4 closed.5);
        are_jobs = more;
        all = λ ok going. omega (arith, lengths, l);
        within = refl;
      } where
        over : (length list ≤ got.count) ⊎ ((plan.jobs ≤ index) ⊎ (false ≡ true)) → (length list ≤ got.count) ⊎ (plan.jobs ≤ length js + 1)
        over (inl h) = inl h
        over (inr (inl h)) = inr (omega (arith, h, count))
        over (inr (inr h)) = absurd (not_true h) where
          not_true : false ≡ true → ⊥
          not_true h = cc

-- a desk whose open job was published
pub closed_whole : (plan : Plan) (limit index first : ℕ) (last : State) (before all : List (ℕ × Job)) (whole : Bool) (job : Job) → whole ≡ true → all ≡ before ++ (length before + 1, job) ∷ [] → job.index ≡ index
    → job.bounds ≡ bounds_for plan limit first last → job.start ≡ last → job.hints ≡ no_hints → HasClosed plan limit index first last before all whole
closed_whole plan limit index first last before all whole job is more at bounds start bare = subst (λ (w : Bool). HasClosed plan limit index first last before all w) (sym is) (job, more, at, bounds, start, bare)

made_in : (told : Option (List Offer)) (plan : Plan) (start last : State) (js all : List (ℕ × Job)) (index first : ℕ) (stopped : Bool) (answer : Result (Unit {0}) OutOfMemory)
    → index ≡ length js + 1 → index ≤ plan.jobs → AreJobs plan (start.steps + plan.left) 1 plan.first js → first ≡ first_after_jobs plan.first js → opening js last ≡ start
    → IfTold told (λ list. HasOffered [] list (offers_of js last) (HasEnough plan index stopped) answer)
    → HasClosed plan (start.steps + plan.left) index first last js all (whole_of answer stopped) → AreMade told plan start all stopped answer
made_in told plan start last js all index first false (Ok tt) count few jobs first_is opened got closed = whole_made told plan start last js all index first count few jobs first_is opened got closed
made_in told plan start last js all index first true (Ok tt) count few jobs first_is opened got closed = part_made told plan start last js all index true (Ok tt) _ count few jobs opened got (λ ok going. is going) closed where
  is : true ≡ false → ⊥
  is h = cc
made_in told plan start last js all index first stopped (Err error) count few jobs first_is opened got closed = part_made told plan start last js all index stopped (Err error) _ count few jobs opened got (λ ok going. not_ok (Err error) refl ok) closed

-- what a race leaves of the desk at which it began
pub made : (told : Option (List Offer)) (plan now : Plan) (limit limit_now : ℕ) (start opened last : State) (before js all : List (ℕ × Job)) (index first : ℕ) (stopped whole : Bool) (answer : Result (Unit {0}) OutOfMemory)
    → before ≡ [] → opened ≡ start → now ≡ plan → limit ≡ start.steps + plan.left → limit_now ≡ limit
    → index ≡ length js + 1 → index ≤ now.jobs → AreJobs now limit_now 1 now.first js → first ≡ first_after_jobs now.first js → opening js last ≡ opening before opened
    → IfTold told (λ list. HasOffered (offers_of before opened) list (offers_of js last) (HasEnough now index stopped) answer)
    → whole ≡ whole_of answer stopped → HasClosed now limit_now index first last js all whole → AreMade told plan start all stopped answer
made told plan now limit limit_now start opened last before js all index first stopped whole answer none begins same limit_is limit_same count few jobs first_is opening_is got whole_is closed =
    let steps = limit_same ∙ limit_is in
    made_in told plan start last js all index first stopped answer count
    (subst (λ (p : Plan). index ≤ p.jobs) same few)
    (subst (λ (p : Plan). AreJobs p (start.steps + plan.left) 1 p.first js) same (subst (λ (n : ℕ). AreJobs now n 1 now.first js) steps jobs))
    (first_is ∙ ap (λ (p : Plan). first_after_jobs p.first js) same)
    (opening_is ∙ ap (λ l. opening l opened) none ∙ begins)
    (subst (λ (p : Plan). IfTold told (λ list. HasOffered [] list (offers_of js last) (HasEnough p index stopped) answer)) same
    (subst (λ l. IfTold told (λ list. HasOffered (offers_of l opened) list (offers_of js last) (HasEnough now index stopped) answer)) none got))
    (subst (λ (p : Plan). HasClosed p (start.steps + plan.left) index first last js all (whole_of answer stopped)) same
    (subst (λ (n : ℕ). HasClosed now n index first last js all (whole_of answer stopped)) steps
    (subst (λ (w : Bool). HasClosed now limit_now index first last js all w) whole_is closed)))

-- ---- numbers

-- a job with a number is at the place of the number
pub job_at : (plan : Plan) (limit k first m : ℕ) (js : List (ℕ × Job)) (j : Job) → AreJobs plan limit k first js → In (k + m, j) js → slice_get js m ≡ Some (k + m, j)
job_at plan limit k first m [] j all h = absurd h
job_at plan limit k first zero (x ∷ xs) j all (inl e) = ap Some (sym e)
job_at plan limit k first zero (x ∷ xs) j all (inr h) = absurd (later plan limit (suc k) 1 xs (k + 0, j) all.3 h (omega arith)) where
  later : (plan : Plan) (limit k first : ℕ) (js : List (ℕ × Job)) (y : ℕ × Job) → AreJobs plan limit k first js → In y js → y.0 < k → ⊥
  later plan limit k first [] y all h few = h
  later plan limit k first (z ∷ zs) y all (inl e) few = let a = all.0 in let b = ap (λ (p : ℕ × Job). p.0) e in omega (arith, a, b, few)
  later plan limit k first (z ∷ zs) y all (inr h) few = later plan limit (suc k) 1 zs y all.3 h (omega (arith, few))
job_at plan limit k first (suc m) (x ∷ xs) j all (inl e) = let a = all.0 in let b = ap (λ (p : ℕ × Job). p.0) e in absurd (omega (arith, a, b))
job_at plan limit k first (suc m) (x ∷ xs) j all (inr h) =
    let e : k + suc m ≡ suc k + m = omega arith in
    subst (λ n. slice_get xs m ≡ Some (n, j)) (sym e) (job_at plan limit (suc k) 1 m xs j all.3 (subst (λ n. In (n, j) xs) e h))

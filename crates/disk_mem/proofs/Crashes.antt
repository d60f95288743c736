-- How the images that a crash is asked for go on from call to call, and that they are images.
use Rattle.std.proofs.Common.{◌≡◌, ◌⊎◌, inl, inr, Bool, true, false, ℕ, suc, ◌+◌, ◌-◌, ◌<◌, ◌≤◌, min, max, List, [], ◌∷◌, ◌++◌, length, take, drop, replicate, get_or, refl, sym, ◌∙◌, ap, subst, arith, length-append, length-take, take-suc}
use Rattle.std.proofs.lemmas.Bool.{cases_lt}
use Rattle.std.proofs.lemmas.Bool.Decides.{nat_tests}
use Rattle.std.proofs.lemmas.List.{ext_get_or, get_or-take, get_or-replicate, get_or-append_right, length-replicate, take_all}
use Rattle.std.proofs.lemmas.List.FromFn.{get_or-map-range_with_len, length-map-range_with_len}
use Rattle.std.proofs.Math.ListN.{get_or-append}
use Rattle.std.specs.Prelude.{◌&&◌, ◌||◌, nat_le, nat_lt, if◌then◌else◌, slice_index}
use Rattle.dp_base.specs.Field.{AreBytes}
use Rattle.disk_model.proofs.Images.{length-overwritten, overwritten-outside}
use Rattle.disk_model.specs.History.{Range, Pending, History, IsOutside, IsImage, nothing_pending, write_pending}
use Rattle.disk_model.specs.Known.{overwritten}
use Rattle.disk_model.specs.Steps.{cut_pending}
use Rattle.disk_mem.specs.declared.call.Call.{Call}
use Rattle.disk_mem.specs.declared.call.Call.TheVariants.{Write, Cut, Sync}
use Rattle.disk_mem.specs.Replay.{start, after_call, replay}
use Rattle.disk_mem.specs.Recording.{Recording, recording}
use Rattle.disk_mem.specs.Crashing.{without_pending, is_within, byte_or_one, with_ones}
use Rattle.disk_mem.proofs.Filled.{length-padded}
use Rattle.disk_mem.proofs.Keeps.{replay-push}
use Rattle.disk_mem.proofs.Spans.{Spans, spans-replay, spans-synced}

-- ---- one byte

or-true : (b : Bool) (x : ℕ) → (if b || true then 1 else x) ≡ 1
or-true true x = refl
or-true false x = refl

-- an offset in the range
in-range : (at count : ℕ) (p : Pending) (i : ℕ) → at ≤ i → i < at + count → byte_or_one (write_pending at count p) i ≡ 1
in-range at count p i from to =
    let a : nat_le at i ≡ true = grind (arith, nat_tests) in
    let b : nat_lt i (at + count) ≡ true = grind (arith, nat_tests) in
    rw (a, b) refl

-- another one
beside : (at count : ℕ) (i : ℕ) → (i < at) ⊎ (at + count ≤ i) → (nat_le at i && nat_lt i (at + count)) ≡ false
beside at count i (inl before) =
    let a : nat_le at i ≡ false = grind (arith, nat_tests) in
    rw a refl
beside at count i (inr behind) =
    let a : nat_le at i ≡ true = grind (arith, nat_tests) in
    let b : nat_lt i (at + count) ≡ false = grind (arith, nat_tests) in
    rw (a, b) refl

out-of-range : (at count : ℕ) (p : Pending) (i : ℕ) → (i < at) ⊎ (at + count ≤ i) → byte_or_one (write_pending at count p) i ≡ byte_or_one p i
out-of-range at count p i out =
    ap (λ (b : Bool). if (b || is_within p.ranges i) || nat_le p.least i then 1 else slice_index p.synced i) (beside at count i out)

-- an offset from the least length on
past-least : (p : Pending) (i : ℕ) → p.least ≤ i → byte_or_one p i ≡ 1
past-least p i past =
    let a : nat_le p.least i ≡ true = grind (arith, nat_tests) in
    ap (λ (b : Bool). if is_within p.ranges i || b then 1 else slice_index p.synced i) a ∙ or-true (is_within p.ranges i) (slice_index p.synced i)

outside : (ranges : List Range) (i : ℕ) → IsOutside ranges i → is_within ranges i ≡ false
outside [] i out = refl
outside (r ∷ rest) i out = ap (λ (b : Bool). b || is_within rest i) (beside r.at r.count i out.0) ∙ outside rest i out.1

stays-there : (p : Pending) (i : ℕ) → i < p.least → IsOutside p.ranges i → byte_or_one p i ≡ get_or p.synced i 0
stays-there p i below out =
    let a : nat_le p.least i ≡ false = grind (arith, nat_tests) in
    ap (λ (b : Bool). if b || nat_le p.least i then 1 else slice_index p.synced i) (outside p.ranges i out)
    ∙ ap (λ (b : Bool). if b then 1 else slice_index p.synced i) a

-- below the least length a cut does nothing to it
before-cut : (size : ℕ) (p : Pending) (i : ℕ) → i < size → byte_or_one (cut_pending size p) i ≡ byte_or_one p i
before-cut size p i below =
    let a : nat_le (min p.least size) i ≡ nat_le p.least i = elim (cases_lt i p.least) [
      | inl short ↦
          let f : nat_le p.least i ≡ false = grind (arith, nat_tests) in
          let g : nat_le (min p.least size) i ≡ false = grind (arith, nat_tests) in
          g ∙ sym f
      | inr long ↦
          let f : nat_le p.least i ≡ true = grind (arith, nat_tests) in
          let g : nat_le (min p.least size) i ≡ true = grind (arith, nat_tests) in
          g ∙ sym f
    ] in
    ap (λ (b : Bool). if is_within p.ranges i || b then 1 else slice_index p.synced i) a

-- ---- all of them

pub length-ones : (p : Pending) → length (with_ones p) ≡ p.greatest
unfolding with_ones
length-ones p = length-map-range_with_len (byte_or_one p) 0 p.greatest

one-of : (p : Pending) (i : ℕ) → i < p.greatest → get_or (with_ones p) i 0 ≡ byte_or_one p i
unfolding with_ones
one-of p i below = get_or-map-range_with_len (byte_or_one p) 0 p.greatest i i 0 below (omega arith)

-- with ones up to a length
abbrev pub longer : ℕ → List ℕ → List ℕ
longer n l = l ++ replicate (n - length l) 1

one-of-longer : (n : ℕ) (p : Pending) (i : ℕ) → p.least ≤ p.greatest → i < max p.greatest n → get_or (longer n (with_ones p)) i 0 ≡ byte_or_one p i
one-of-longer n p i ordered below =
    let size = length-ones p in
    elim (cases_lt i p.greatest) [
      | inl within ↦ get_or-append (with_ones p) (replicate (n - length (with_ones p)) 1) 0 i (omega (arith, size, within)) ∙ one-of p i within
      | inr past ↦
          get_or-append_right (with_ones p) (replicate (n - length (with_ones p)) 1) p.greatest i 0 size past
          ∙ get_or-replicate (n - length (with_ones p)) (i - p.greatest) 1 0 (omega (arith, size, past, below))
          ∙ sym (past-least p i (omega (arith, ordered, past)))
    ]

-- inside of its range a write leaves what it writes
overwritten-inside : (at : ℕ) (bytes disk : List ℕ) (i : ℕ) → at ≤ length disk → at ≤ i → i < at + length bytes → get_or (overwritten at bytes disk) i 0 ≡ get_or bytes (i - at) 0
overwritten-inside at bytes disk i within from to =
    let before : length (take at disk) ≡ at = omega (arith, length-take at disk, within) in
    get_or-append (take at disk ++ bytes) (drop (at + length bytes) disk) 0 i (omega (arith, length-append (take at disk) bytes, before, to))
    ∙ get_or-append_right (take at disk) bytes at i 0 before from

-- a write more
pub ones-write : (at count : ℕ) (p : Pending) → p.least ≤ p.greatest → with_ones (write_pending at count p) ≡ overwritten at (replicate count 1) (longer (at + count) (with_ones p))
ones-write at count p ordered =
    let q = write_pending at count p in
    let long = longer (at + count) (with_ones p) in
    let put : List ℕ = replicate count 1 in
    let ones : length put ≡ count = length-replicate {A = ℕ} count 1 in
    let size : length long ≡ max p.greatest (at + count) = omega (arith, length-padded (at + count) 1 (with_ones p), length-ones p) in
    let within : at ≤ length long = omega (arith, size) in
    ext_get_or 0 (with_ones q) (overwritten at put long)
    (omega (arith, length-ones q, length-overwritten at put long within, size, ones))
    (λ i below.
    let fits : i < max p.greatest (at + count) = omega (arith, below, length-ones q) in
    one-of q i fits
    ∙ elim (cases_lt i at) [
      | inl before ↦
          out-of-range at count p i (inl before) ∙ sym (one-of-longer (at + count) p i ordered fits)
          ∙ sym (overwritten-outside at put long i within (omega (arith, size, fits)) (inl before))
      | inr from ↦ elim (cases_lt i (at + count)) [
        | inl to ↦
            in-range at count p i from to
            ∙ sym (overwritten-inside at put long i within from (omega (arith, ones, to)) ∙ get_or-replicate count (i - at) 1 0 (omega (arith, from, to)))
        | inr behind ↦
            out-of-range at count p i (inr behind) ∙ sym (one-of-longer (at + count) p i ordered fits)
            ∙ sym (overwritten-outside at put long i within (omega (arith, size, fits)) (inr (omega (arith, ones, behind))))
      ]
    ])

-- a cut more
pub ones-cut : (size : ℕ) (p : Pending) → p.least ≤ p.greatest → with_ones (cut_pending size p) ≡ take size (longer size (with_ones p)) ++ replicate (length (with_ones p) - size) 1
ones-cut size p ordered =
    let q = cut_pending size p in
    let long = longer size (with_ones p) in
    let ones : List ℕ = replicate (length (with_ones p) - size) 1 in
    let all = length-ones p in
    let whole : length long ≡ max p.greatest size = omega (arith, length-padded size 1 (with_ones p), all) in
    let part : length (take size long) ≡ size = omega (arith, length-take size long, whole) in
    let rest : length ones ≡ p.greatest - size = omega (arith, length-replicate {A = ℕ} (length (with_ones p) - size) 1, all) in
    ext_get_or 0 (with_ones q) (take size long ++ ones)
    (omega (arith, length-ones q, length-append (take size long) ones, part, rest))
    (λ i below.
    let fits : i < max p.greatest size = omega (arith, below, length-ones q) in
    one-of q i fits
    ∙ elim (cases_lt i size) [
      | inl before ↦
          before-cut size p i before ∙ sym (one-of-longer size p i ordered fits) ∙ sym (get_or-take size long i 0 before)
          ∙ sym (get_or-append (take size long) ones 0 i (omega (arith, part, before)))
      | inr behind ↦
          past-least q i (omega (arith, behind))
          ∙ sym (get_or-append_right (take size long) ones size i 0 part behind
          ∙ get_or-replicate (length (with_ones p) - size) (i - size) 1 0 (omega (arith, all, behind, fits)))
    ])

-- nothing pending
pub ones-synced : (disk : List ℕ) → with_ones (nothing_pending disk) ≡ disk
ones-synced disk =
    ext_get_or 0 (with_ones (nothing_pending disk)) disk (length-ones (nothing_pending disk))
    (λ i below.
    let fits : i < length disk = omega (arith, below, length-ones (nothing_pending disk)) in
    one-of (nothing_pending disk) i fits ∙ stays-there (nothing_pending disk) i fits tt)

-- ---- over a record

pub marked-write : (call : Call) (at count : ℕ) (bytes old new : List ℕ) (ok : Bool) (h : History) → call ≡ Write at bytes ok → count ≡ length bytes → new ≡ overwritten at (replicate count 1) (longer (at + count) old) → old ≡ with_ones h.pending → h.pending.least ≤ h.pending.greatest → new ≡ with_ones (after_call call h).pending
marked-write call at count bytes old new true h is size e same ordered =
    e ∙ ap (λ (l : List ℕ). overwritten at (replicate count 1) (longer (at + count) l)) same ∙ sym (ones-write at count h.pending ordered)
    ∙ ap (λ (n : ℕ). with_ones (write_pending at n h.pending)) size
    ∙ ap (λ (c : Call). with_ones (after_call c h).pending) (sym is)
marked-write call at count bytes old new false h is size e same ordered =
    e ∙ ap (λ (l : List ℕ). overwritten at (replicate count 1) (longer (at + count) l)) same ∙ sym (ones-write at count h.pending ordered)
    ∙ ap (λ (n : ℕ). with_ones (write_pending at n h.pending)) size
    ∙ ap (λ (c : Call). with_ones (after_call c h).pending) (sym is)

pub marked-cut : (call : Call) (size : ℕ) (old new : List ℕ) (ok : Bool) (h : History) → call ≡ Cut size ok → new ≡ take size (longer size old) ++ replicate (length old - size) 1 → old ≡ with_ones h.pending → h.pending.least ≤ h.pending.greatest → new ≡ with_ones (after_call call h).pending
marked-cut call size old new true h is e same ordered =
    e ∙ ap (λ (l : List ℕ). take size (longer size l) ++ replicate (length l - size) 1) same ∙ sym (ones-cut size h.pending ordered)
    ∙ ap (λ (c : Call). with_ones (after_call c h).pending) (sym is)
marked-cut call size old new false h is e same ordered =
    e ∙ ap (λ (l : List ℕ). take size (longer size l) ++ replicate (length l - size) 1) same ∙ sym (ones-cut size h.pending ordered)
    ∙ ap (λ (c : Call). with_ones (after_call c h).pending) (sym is)

-- ---- an image that is what a read gives, where nothing is pending

pub kept-synced : (disk : List ℕ) → without_pending (nothing_pending disk) ≡ disk
kept-synced disk = take_all (length disk) disk (omega arith)

pub image-sync : (image : Pending → List ℕ) → ((disk : List ℕ) → image (nothing_pending disk) ≡ disk) → (call : Call) (disk old new : List ℕ) (ok : Bool) (h : History) → call ≡ Sync ok → new ≡ (if ok then disk else old) → disk ≡ h.disk → old ≡ image h.pending → new ≡ image (after_call call h).pending
image-sync image synced call disk old new true h is e same old-is = e ∙ same ∙ sym (synced h.disk) ∙ ap (λ (c : Call). image (after_call c h).pending) (sym is)
image-sync image synced call disk old new false h is e same old-is = e ∙ old-is ∙ ap (λ (c : Call). image (after_call c h).pending) (sym is)

-- before the first call
pub image-first : (image : Pending → List ℕ) → ((disk : List ℕ) → image (nothing_pending disk) ≡ disk) → (first disk bytes : List ℕ) → disk ≡ first → bytes ≡ first → (disk ≡ (replay (start first) []).disk) × (bytes ≡ image (replay (start first) []).pending)
unfolding replay
image-first image synced first disk bytes same e = (same, e ∙ sym (synced first))

-- the first calls, and one more
pub replay-next : (h : History) (calls : List Call) (i : ℕ) (call : Call) → i < length calls → call ≡ get_or calls i call → replay h (take (i + 1) calls) ≡ after_call call (replay h (take i calls))
replay-next h calls i call below is =
    let next : i + 1 ≡ suc i = omega arith in
    ap (λ (n : ℕ). replay h (take n calls)) next
    ∙ ap (replay h) (take-suc calls i call below ∙ ap (λ (c : Call). take i calls ++ c ∷ []) (sym is))
    ∙ replay-push h (take i calls) call

spans : (first : List ℕ) (calls : List Call) → Spans (replay (start first) calls).pending (replay (start first) calls).disk
spans first calls = spans-replay calls (start first) (spans-synced first)

pub ordered : (first : List ℕ) (calls : List Call) → (replay (start first) calls).pending.least ≤ (replay (start first) calls).pending.greatest
ordered first calls = omega (arith, (spans first calls).no_shorter, (spans first calls).no_longer)

-- ---- images

without-is-image : (p : Pending) (image : List ℕ) → image ≡ without_pending p → p.least ≤ length p.synced → p.least ≤ p.greatest → AreBytes image → IsImage p image
without-is-image p image is fits ordered bytes =
    let size : length image ≡ p.least = ap length is ∙ omega (arith, length-take p.least p.synced, fits) in
    record {
      no_shorter = omega (arith, size);
      no_longer = omega (arith, size, ordered);
      stays = λ i below out. ap (λ (l : List ℕ). get_or l i 0) is ∙ get_or-take p.least p.synced i 0 below;
      bytes = bytes;
    }

ones-are-image : (p : Pending) (image : List ℕ) → image ≡ with_ones p → p.least ≤ p.greatest → AreBytes image → IsImage p image
ones-are-image p image is ordered bytes =
    let size : length image ≡ p.greatest = ap length is ∙ length-ones p in
    record {
      no_shorter = omega (arith, size, ordered);
      no_longer = omega (arith, size);
      stays = λ i below out. ap (λ (l : List ℕ). get_or l i 0) is ∙ one-of p i (omega (arith, below, ordered)) ∙ stays-there p i below out;
      bytes = bytes;
    }

pub kept-is-image : (first : List ℕ) (calls : List Call) (now : Recording) (image : List ℕ) → recording first calls ≡ now → image ≡ without_pending (replay (start first) calls).pending → AreBytes image → IsImage now.history.pending image
kept-is-image first calls now image same is bytes =
    subst (λ (r : Recording). IsImage r.history.pending image) same
    (without-is-image (replay (start first) calls).pending image is (spans first calls).synced (ordered first calls) bytes)

pub marked-is-image : (first : List ℕ) (calls : List Call) (now : Recording) (image : List ℕ) → recording first calls ≡ now → image ≡ with_ones (replay (start first) calls).pending → AreBytes image → IsImage now.history.pending image
marked-is-image first calls now image same is bytes =
    subst (λ (r : Recording). IsImage r.history.pending image) same
    (ones-are-image (replay (start first) calls).pending image is (ordered first calls) bytes)

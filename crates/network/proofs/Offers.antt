-- What an offer says of its report, and who wins among offers. Only this file and computed examples open `offer`, `goes_before`, `against` and `winner`.
-- Assumes nothing.
use Rattle.std.specs.Prelude.{Some, None}
use mathlib.Core.Path.{◌≡◌, refl, sym, ap₂, subst, ◌∙◌}
use mathlib.Core.Bool.{true, false, cond, ◌&&◌}
use mathlib.Core.Logic.{◌⊎◌, inl, inr, ◌≢◌}
use Prim.Native.Nat.{ℕ, zero, suc, ◌+◌, ◌<◌, ◌≤◌}
use native.Mathlib.Omega.{arith}
use lib.Dec.{eqb, ltb}
use borrow.Author.Tests.{le-ltb, eq-eqb, ltb-true, ltb-false, eqb-true}
use Rattle.ancestors.specs.Ancestors.{has}
use Rattle.ancestors.proofs.Cases.{bool_cases, eq_or_ne, and_both, or_neither, clash}
use Rattle.network.specs.Faults.{max_label}
use Rattle.network.specs.Network.{Report, empty, told}
use Rattle.network.specs.Round.{Offer, offer, goes_before, Winner, nobody, sender, against, winner}

-- ---- one offer

-- the report h makes y the offer v over an arc of cost c
pub record Made (y c : ℕ) (h : Report) (v : ℕ) : Type 0 where
  pub label : ℕ
  pub list : ℕ
  pub is : h ≡ told label list
  pub apart : has list y ≡ false
  pub total : v ≡ label + c
  pub fits : v ≤ max_label

-- no offer is both nothing and a sum
pub nothing_sum : {A : Type 0} {v : ℕ} (o : Offer) → o ≡ None → o ≡ Some v → A
nothing_sum o p q = clash cc

-- a sum comes from a report that makes it
pub made : (y c : ℕ) (h : Report) (v : ℕ) → offer y c h ≡ Some v → Made y c h v
unfolding offer
made y c empty v e = nothing_sum None refl e
made y c (told d l) v e = go (bool_cases (has l y)) (bool_cases (ltb max_label (d + c)))
  where
    go : (has l y ≡ true) ⊎ (has l y ≡ false) → (ltb max_label (d + c) ≡ true) ⊎ (ltb max_label (d + c) ≡ false) → Made y c (told d l) v
    go (inl h) b = nothing_sum None refl (rw h at e)
    go (inr h) (inl b) = nothing_sum None refl (rw (h, b) at e)
    go (inr h) (inr b) =
        let q : Some (d + c) ≡ Some v = rw (h, b) at e in
        let t : v ≡ d + c = cc in
        record { label = d; list = l; is = refl; apart = h; total = t; fits = omega (arith, ltb-false max_label (d + c) b) }

-- and such a report makes its sum
pub makes : (y c d l : ℕ) → has l y ≡ false → d + c ≤ max_label → offer y c (told d l) ≡ Some (d + c)
unfolding offer
makes y c d l h f = rw (h, le-ltb max_label (d + c) f)

-- ---- the winner

-- the offer of sum v from a report with i ones goes before that of sum u with j ones, whoever sent them
abbrev pub Ahead : ℕ → ℕ → ℕ → ℕ → Type 0
Ahead v i u j = (v < u) ⊎ ((v ≡ u) × (i < j))

-- and where neither does, the lower sender's goes before: r's before s's
abbrev pub Before : ℕ → ℕ → ℕ → ℕ → ℕ → ℕ → Type 0
Before v i r u j s = Ahead v i u j ⊎ ((v ≡ u) × (i ≡ j) × (r < s))

-- two offers do not go before each other
pub before_once : {v i r u j s : ℕ} → Before v i r u j s → Before u j s v i r → ⊥
before_once (inl (inl a)) (inl (inl b)) = omega arith
before_once (inl (inl a)) (inl (inr b)) = omega arith
before_once (inl (inl a)) (inr b) = omega arith
before_once (inl (inr a)) (inl (inl b)) = omega arith
before_once (inl (inr a)) (inl (inr b)) = omega arith
before_once (inl (inr a)) (inr b) = omega arith
before_once (inr a) (inl (inl b)) = omega arith
before_once (inr a) (inl (inr b)) = omega arith
before_once (inr a) (inr b) = omega arith

-- what the test says
goes_ahead : (v i u j : ℕ) → goes_before v i u j ≡ true → Ahead v i u j
unfolding goes_before
goes_ahead v i u j e = go (bool_cases (ltb v u))
  where
    go : (ltb v u ≡ true) ⊎ (ltb v u ≡ false) → Ahead v i u j
    go (inl t) = inl (ltb-true v u t)
    go (inr t) = let b = and_both (eqb v u) (ltb i j) (rw t at e) in inr (eqb-true v u b.0, ltb-true i j b.1)

stays_ahead : (v i u j r s : ℕ) → r < s → goes_before v i u j ≡ false → Before u j r v i s
unfolding goes_before
stays_ahead v i u j r s h e = go (eq_or_ne v u) (eq_or_ne i j)
  where
    neither : (ltb v u ≡ false) × ((eqb v u && ltb i j) ≡ false)
    neither = or_neither (ltb v u) (eqb v u && ltb i j) e

    least : u ≤ v
    least = ltb-false v u neither.0

    fewest : v ≡ u → j ≤ i
    fewest q = ltb-false i j (rw (eq-eqb v u q) at neither.1)

    go : (v ≡ u) ⊎ (v ≢ u) → (i ≡ j) ⊎ (i ≢ j) → Before u j r v i s
    go (inr q) k = inl (inl (omega (arith, least, q)))
    go (inl q) (inr k) = inl (inr (sym q, omega (arith, fewest q, k)))
    go (inl q) (inl k) = inr (sym q, sym k, h)

-- what goes ahead of an offer goes ahead of those after it
ahead_on : {v i u j s x k r : ℕ} → Ahead v i u j → Before u j s x k r → Ahead v i x k
ahead_on (inl a) (inl (inl b)) = inl (omega arith)
ahead_on (inl a) (inl (inr b)) = inl (omega arith)
ahead_on (inl a) (inr b) = inl (omega arith)
ahead_on (inr a) (inl (inl b)) = inl (omega arith)
ahead_on (inr a) (inl (inr b)) = inr (omega arith, omega arith)
ahead_on (inr a) (inr b) = inr (omega arith, omega arith)

-- who wins among the offers f of the senders below n, with c the ones by sender: nobody if there is none, else the sender whose offer goes
-- before all others
pub data Won (f : ℕ → Offer) (c : ℕ → ℕ) (n : ℕ) : Winner → Type 0 where
  no_one : ((r : ℕ) → r < n → f r ≡ None) → Won f c n nobody
  some_one : {s u : ℕ} → s < n → f s ≡ Some u → ((r v : ℕ) → r < n → r ≢ s → f r ≡ Some v → Before u (c s) s v (c r) r) → Won f c n (sender s u)

module _ (f : ℕ → Offer) (c : ℕ → ℕ) where
  -- a sender below n + 1 is below n, or is n
  below_or_last : {A : Type 0} (n r : ℕ) → r < suc n → (r < n → A) → (r ≡ n → A) → A
  below_or_last {A} n r b h p = go (eq_or_ne r n)
    where
      go : (r ≡ n) ⊎ (r ≢ n) → A
      go (inl e) = p e
      go (inr e) = h (omega (arith, e))

  -- a sender makes one sum
  same_sum : (r n v x : ℕ) → r ≡ n → f n ≡ Some v → f r ≡ Some x → v ≡ x
  same_sum r n v x e p q = cc

  -- sender n's sum v is looked at after s with sum u won below n
  two_sums : (n s u v : ℕ) → s < n → f s ≡ Some u → ((r x : ℕ) → r < n → r ≢ s → f r ≡ Some x → Before u (c s) s x (c r) r) → f n ≡ Some v →
      (goes_before v (c n) u (c s) ≡ true) ⊎ (goes_before v (c n) u (c s) ≡ false) →
      Won f c (suc n) (cond (goes_before v (c n) u (c s)) (sender n v) (sender s u))
  two_sums n s u v b q low e (inl t) =
      rw t
      (some_one {s = n} (omega arith) e
      (λ r x h ne p. below_or_last n r h (λ k. inl (first r x k p (eq_or_ne r s))) (λ k. absurd (ne k))))
    where
      first : (r x : ℕ) → r < n → f r ≡ Some x → (r ≡ s) ⊎ (r ≢ s) → Ahead v (c n) x (c r)
      first r x h p (inl k) = rw (← same_sum r s u x k q p, k) (goes_ahead v (c n) u (c s) t)
      first r x h p (inr k) = ahead_on {s = s} {r = r} (goes_ahead v (c n) u (c s) t) (low r x h k p)
  two_sums n s u v b q low e (inr t) =
      rw t
      (some_one {s = s} (omega arith) q
      (λ r x h ne p. below_or_last n r h (λ k. low r x k ne p) (λ k. rw (← same_sum r n v x k e p, k) (stays_ahead v (c n) u (c s) s n b t))))

  -- sender n's offer o is looked at after w won below n
  won_step : (n : ℕ) (w : Winner) → Won f c n w → (o : Offer) → f n ≡ o → Won f c (suc n) (against c w n o)
  unfolding against
  won_step n nobody (no_one h) None e = no_one (λ r b. below_or_last n r b (h r) (λ k. rw k e))
  won_step n nobody (no_one h) (Some v) e =
      some_one {s = n} (omega arith) e (λ r x b ne q. below_or_last n r b (λ k. nothing_sum (f r) (h r k) q) (λ k. absurd (ne k)))
  won_step n (sender s u) (some_one b q low) None e =
      some_one {s = s} (omega arith) q (λ r x h ne p. below_or_last n r h (λ k. low r x k ne p) (λ k. nothing_sum (f r) (rw k e) p))
  won_step n (sender s u) (some_one b q low) (Some v) e = two_sums n s u v b q low e (bool_cases (goes_before v (c n) u (c s)))

  -- who wins below n
  pub won : (n : ℕ) → Won f c n (winner f c n)
  unfolding winner
  won zero = no_one (λ r b. absurd (omega arith))
  won (suc n) = won_step n (winner f c n) (won n) (f n) refl

  -- at most one wins
  pub won_once : (n : ℕ) (v w : Winner) → Won f c n v → Won f c n w → v ≡ w
  won_once n nobody nobody a b = refl
  won_once n nobody (sender s u) (no_one none) (some_one below its low) = nothing_sum (f s) (none s below) its
  won_once n (sender s u) nobody (some_one below its low) (no_one none) = nothing_sum (f s) (none s below) its
  won_once n (sender s u) (sender r v) (some_one below its low) (some_one below' its' low') = go (eq_or_ne s r)
    where
      go : (s ≡ r) ⊎ (s ≢ r) → sender s u ≡ sender r v
      go (inl e) = rw (e, same_sum s r v u e its' its)
      go (inr e) = absurd (before_once (low r v below' (λ q. e (sym q)) its') (low' s u below e its))

  -- who wins is among the n
  pub won_below : (n s u : ℕ) → winner f c n ≡ sender s u → s < n
  won_below n s u e = go (subst (Won f c n) e (won n))
    where
      go : Won f c n (sender s u) → s < n
      go (some_one below its low) = below

-- the winner depends on the offers and ones of the senders below n alone
against_ext : (c d : ℕ → ℕ) (n k : ℕ) (w : Winner) (o : Offer) (f : ℕ → Offer) → Won f c n w → c k ≡ d k → ((s : ℕ) → s < n → c s ≡ d s) →
    against c w k o ≡ against d w k o
unfolding against
against_ext c d n k w None f h p e = refl
against_ext c d n k nobody (Some v) f h p e = refl
against_ext c d n k (sender s u) (Some v) f (some_one b q low) p e = rw (p, e s b)

pub winner_ext : (f g : ℕ → Offer) (c d : ℕ → ℕ) (n : ℕ) → ((s : ℕ) → s < n → f s ≡ g s) → ((s : ℕ) → s < n → c s ≡ d s) →
    winner f c n ≡ winner g d n
unfolding winner
winner_ext f g c d zero e h = refl
winner_ext f g c d (suc n) e h =
    against_ext c d n n (winner f c n) (f n) f (won f c n) (h n (omega arith)) (λ s b. h s (omega arith)) ∙
    ap₂ (λ w o. against d w n o) (winner_ext f g c d n (λ s b. e s (omega arith)) (λ s b. h s (omega arith))) (e n (omega arith))

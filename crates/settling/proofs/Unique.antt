-- A node has at most one settled row, with a route exactly where a walk leads.
-- Assumes nothing.
use mathlib.Core.Path.{◌≡◌, refl, sym, ap₂, subst}
use Prim.Native.Nat.{ℕ}
use native.Mathlib.Omega.{arith}
use Rattle.ancestors.specs.Ancestors.{put}
use Rattle.network.specs.Network.{Row, none, via}
use Rattle.settling.specs.Settled.{Walk, here, Least, Predecessor, Ancestors, at_origin, behind, Settled, fixed, unreached, reached}

module _ (cost : ℕ → ℕ → ℕ) (origin : ℕ) where
  -- a node has one least cost
  pub least_once : {y d e : ℕ} → Least cost origin y d → Least cost origin y e → d ≡ e
  least_once {y} {d} {e} a b = omega (arith, a.least b.arcs e b.walk, b.least a.arcs d a.walk)

  -- one settled predecessor
  pub predecessor_once : {y p q : ℕ} → Predecessor cost origin y p → Predecessor cost origin y q → p ≡ q
  predecessor_once {y} {p} {q} a b =
      let same : a.arcs ≡ b.arcs = omega (arith, a.fewest q b.arcs b.tight b.walk, b.fewest p a.arcs a.tight a.walk) in
      omega (
        arith,
        a.lowest q b.tight (subst (λ (k : ℕ). Walk cost origin q k b.tight.before) (sym same) b.walk),
        b.lowest p a.tight (subst (λ (k : ℕ). Walk cost origin p k a.tight.before) same a.walk),
      )

  -- and one list of nodes along settled predecessors; over two nodes, since a case says of each which it is
  ancestors_same : {y z l m : ℕ} → y ≡ z → Ancestors cost origin y l → Ancestors cost origin z m → l ≡ m
  ancestors_same e at_origin at_origin = refl
  ancestors_same e at_origin (behind ne p a) = absurd (ne (sym e))
  ancestors_same e (behind ne p a) at_origin = absurd (ne e)
  ancestors_same e (behind ne f a) (behind {p = q} ne' g b) =
      ap₂ put (ancestors_same (predecessor_once f (subst (λ (k : ℕ). Predecessor cost origin k q) (sym e) g)) a b) e

  pub ancestors_once : {y l m : ℕ} → Ancestors cost origin y l → Ancestors cost origin y m → l ≡ m
  ancestors_once a b = ancestors_same refl a b

  -- a node has at most one settled row
  pub settled_once : {y : ℕ} {a b : Row} → Settled cost origin y a → Settled cost origin y b → a ≡ b
  settled_once (fixed e) (fixed f) = refl
  settled_once (fixed e) (unreached no_Walk) = absurd (no_Walk 0 0 (rw e here))
  settled_once (fixed e) (reached ne m p a) = absurd (ne e)
  settled_once (unreached no_Walk) (fixed f) = absurd (no_Walk 0 0 (rw f here))
  settled_once (unreached no_Walk) (unreached other) = refl
  settled_once (unreached no_Walk) (reached {d = d} ne m p a) = absurd (no_Walk m.arcs d m.walk)
  settled_once (reached ne m p a) (fixed f) = absurd (ne f)
  settled_once (reached {d = d} ne m p a) (unreached no_Walk) = absurd (no_Walk m.arcs d m.walk)
  settled_once (reached ne m p a) (reached ne' m' p' a') = rw (least_once m m', predecessor_once p p', ancestors_once a a')

  -- a settled row with a route comes with a walk of its label's cost
  pub settled_walk : {y d p l : ℕ} → Settled cost origin y (via d p l) → (k : ℕ) × Walk cost origin y k d
  settled_walk (reached ne m p a) = (m.arcs, m.walk)

  -- and one without a route is settled only where no walk leads
  pub settled_none : {y : ℕ} → Settled cost origin y none → (k d : ℕ) → Walk cost origin y k d → ⊥
  settled_none (unreached no_Walk) k d w = no_Walk k d w

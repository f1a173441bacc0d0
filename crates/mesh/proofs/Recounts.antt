-- A change of a count keeps a mesh.
use Rattle.std.proofs.Common.{◌≡◌, ℕ, Some, List, [], ◌∷◌, refl, sym, ap, ◌∙◌, inl, inr}
use Rattle.std.specs.Option.{option_map}
use Rattle.tri_pages.specs.declared.tri_slot.TriSlot.{TriSlot}
use Rattle.tri_pages.specs.Slots.{State, triangle_at}
use Rattle.mesh.specs.Acrosses.{apex, IsAcross}
use Rattle.mesh.specs.Corners.{Distinct}
use Rattle.mesh.specs.Recounts.{recounted, IsRecounted}
use Rattle.mesh.specs.Faces.{face}
use Rattle.mesh.specs.Meshes.{IsMesh}
use Rattle.mesh.specs.Net.{Side, first, after, corner_at, edges_of, slots_of, outside, IsNetBut, OpenIn}
use Rattle.mesh.proofs.Acrosses.{four_distinct}
use Rattle.mesh.proofs.Corners.{thrice, distinct_from}
use Rattle.mesh.proofs.Filled.{filled_two, mesh_of}
use Rattle.mesh.proofs.Patched.{patched}
use Rattle.mesh.proofs.Shape.{Piece, IsPatch}
use Rattle.mesh.proofs.Slots.{slot_in}
use Rattle.mesh.proofs.WrittenSlots.{WroteTwo}

-- the pages `old`, with two slots written
pub record CountRun (old new : List State) (s n : ℕ) (k j : Side) (t u : TriSlot) (m : ℕ) : Type 0 where
  pub mesh : IsMesh old
  pub here : triangle_at old s ≡ Some t
  pub real : s ≡ outside → ⊥
  pub inner : n ≡ outside → ⊥
  pub across : IsAcross old t k n u j
  pub two : apex t k ≡ apex u j → ⊥
  pub wrote : WroteTwo old new s n (recounted t k m n) (recounted u j m s)

module _ (old new : List State) (s n : ℕ) (k j : Side) (t u : TriSlot) (m : ℕ) (r : CountRun old new s n k j t u m) where
  here : slots_of old s ≡ Some t
  here = slot_in old s r.real ∙ r.here

  beyond : slots_of old n ≡ Some u
  beyond = slot_in old n r.inner ∙ r.across.there

  apart : Distinct (corner_at t k ∷ corner_at t (after k) ∷ apex t k ∷ apex u j ∷ [])
  apart = four_distinct t u k j (r.mesh.distinct s t here) (r.mesh.distinct n u beyond) r.across.starts r.across.ends r.two

  abbrev olds : List Piece
  olds = record { slot = s; tri = t; base = k; a = 0; b = 1; c = 2 } ∷ record { slot = n; tri = u; base = j; a = 1; b = 0; c = 3 } ∷ []

  abbrev news : List Piece
  news = record { slot = s; tri = recounted t k m n; base = first; a = 0; b = 1; c = 2 } ∷ record { slot = n; tri = recounted u j m s; base = first; a = 1; b = 0; c = 3 } ∷ []

  patch : IsPatch (corner_at t k ∷ corner_at t (after k) ∷ apex t k ∷ apex u j ∷ []) [] (slots_of old) (slots_of new) olds news
  patch = record {
    distinct = apart;
    olds_named = ((refl, refl), ((refl, refl), ((refl, ap Some (sym (thrice t k))), ((ap Some (sym r.across.starts), ap Some (sym r.across.ends)), ((ap Some (sym r.across.ends), refl), ((refl, ap Some (sym (thrice u j ∙ r.across.starts))), tt))))));
    news_named = ((refl, refl), ((refl, refl), ((refl, refl), ((ap Some (sym r.across.starts), ap Some (sym r.across.ends)), ((ap Some (sym r.across.ends), refl), ((refl, ap Some (sym r.across.starts)), tt))))));
    once = (refl, (refl, (refl, (refl, (refl, (refl, tt))))));
    parts = ((refl, refl), ((refl, refl, refl), ((refl, refl, refl), ((refl, refl), ((refl, refl, refl), ((refl, refl, refl), tt))))));
    again = (tt, ((refl, inl refl), ((refl, inl refl), (tt, ((refl, inl refl), ((refl, inl refl), tt))))));
    fresh = (tt, (tt, (tt, (tt, (tt, (tt, tt))))));
    olds_stand = (here, (beyond, tt));
    olds_live = (r.real, (r.inner, tt));
    news_stand = (r.wrote.in_s, (r.wrote.in_n, tt));
    came = (inl (inl refl), (inl (inr (inl refl)), tt));
    gone = (inl (inl refl), (inl (inr (inl refl)), tt));
    rest = λ i x y. r.wrote.rest i x.0 x.1.0;
  }

  net : IsNetBut (OpenIn []) (edges_of (slots_of new))
  net = patched (corner_at t k ∷ corner_at t (after k) ∷ apex t k ∷ apex u j ∷ []) [] (slots_of old) (slots_of new) olds news r.mesh.net patch

  pub count_mesh : IsMesh new
  count_mesh = mesh_of new net (filled_two old new s n (recounted t k m n) (recounted u j m s) r.wrote r.mesh.distinct (λ i _ _ e. r.mesh.whole i e) r.mesh.few
      (distinct_from t k (r.mesh.distinct s t here)) (distinct_from u j (r.mesh.distinct n u beyond)))

  pub count_is : IsRecounted old new s k n m
  count_is = record {
    tri = t;
    beyond = u;
    back = j;
    here = r.here;
    across = r.across;
    in_s = ap (option_map face) r.wrote.in_s;
    in_n = ap (option_map face) r.wrote.in_n;
    rest = λ i a b. ap (option_map face) (r.wrote.rest i a b);
  }

-- Demand 3, for every reader that implements the reading by position.
use Rattle.std.specs.Prelude.{Option, Some}
use Prim.Native.Nat.{ℕ, ◌+◌}
use mathlib.Core.Path.{◌≡◌, refl, sym, ap, ◌∙◌}
use mathlib.Core.List.{List, [], ◌∷◌, ◌++◌, map, flatten, tail, sum, append-nil, map-map}
use Rattle.std.specs.Option.{option_map}
use lib.ListN.{length}
use Rattle.plain_reader.specs.Lists.{Each}
use Rattle.scan.specs.Lines.{lines, Cuts}
use Rattle.plain_reader.specs.Rules.{Rules, nothing, Line}
use Rattle.plain_reader.specs.Calls.{Call, Reader, first, run}
use Rattle.plain_reader.specs.Plain.{opened, plain_trace}
use Rattle.plain_reader.specs.Elements.{blanks_ahead, yielded, by_part, inherited, classified, alone}
use Rattle.plain_reader.specs.Demand.{elements, Finished, Demand3}
use Rattle.plain_reader.specs.Refinement.{Implements, Accepts}
use Rattle.scan.proofs.LineLaws.{lines_flatten}
use Rattle.plain_reader.proofs.ListLaws.{map_flatten}
use Rattle.plain_reader.proofs.ElementLaws.{flatten_by_part, count_by_part}
use Rattle.plain_reader.proofs.Trace.{same_trace}
use Rattle.plain_reader.proofs.Position.{open_view}
use Rattle.plain_reader.proofs.Refinement.{simulation}
use Rattle.plain_reader.proofs.Joined.{plain_parted, plain_readable}

module _ (L : Rules) where
  -- the lines of parts that are cut, classified, are those of the joined body
  classified_flatten : (ps : List (List ℕ)) → Cuts ps → flatten (map (classified L) ps) ≡ classified L (flatten ps)
  classified_flatten ps c = ap flatten (sym (map-map (map L.classify) lines ps)) ∙ sym (map_flatten L.classify (map lines ps)) ∙ ap (map L.classify) (lines_flatten ps c)

  module _ (ps : List (List ℕ)) (cs : List (Call L.Places)) where
    plain_elements : Finished L ps cs → elements L (plain_trace L ps cs) ≡ flatten (by_part L nothing (map (classified L) ps))
    unfolding lines yielded blanks_ahead by_part flatten
    plain_elements h = ap flatten (plain_parted L ps cs h) ∙ no_part ps
      where
        no_part : (qs : List (List ℕ)) → flatten (by_part L nothing (map (classified L) (first qs ∷ tail qs))) ≡ flatten (by_part L nothing (map (classified L) qs))
        no_part [] = refl
        no_part (q ∷ qs) = refl

    plain_joined : Finished L ps cs → Cuts ps → elements L (plain_trace L ps cs) ≡ alone L (flatten ps)
    plain_joined h c = plain_elements h ∙ flatten_by_part L nothing (map (classified L) ps) ∙ ap (yielded L nothing) (classified_flatten ps c)

    plain_counted : Finished L ps cs → length (elements L (plain_trace L ps cs)) ≡ sum ◌+◌ 0 (map (λ (p : List ℕ). length (alone L p)) ps) + inherited L nothing (map (classified L) ps)
    plain_counted h =
        ap length (plain_elements h) ∙ count_by_part L nothing (map (classified L) ps)
        ∙ ap (λ (l : List ℕ). sum ◌+◌ 0 l + inherited L nothing (map (classified L) ps)) (map-map (λ (l : List (Line L.Prefix L.Route)). length (yielded L nothing l)) (classified L) ps)

  -- one part is joined already
  plain_alone : (t : List ℕ) (ds : List (Call L.Places)) → Finished L (t ∷ []) ds → elements L (plain_trace L (t ∷ []) ds) ≡ alone L t
  unfolding Cuts flatten
  plain_alone t ds h = plain_joined (t ∷ []) ds h tt ∙ ap (alone L) (append-nil t)

  -- every reader that implements it and whose opening accepts the header, on every list of parts and every list of calls
  pub demand_3 : (A : Reader L) (I : Implements L A) (opening : List ℕ → Option A.State) (header : List ℕ) → Accepts L A I opening header
      → (ps : List (List ℕ)) (cs : List (Call L.Places)) → I.Takes (header ++ first ps) → Each I.Takes (tail ps) → Demand3 L A opening header ps cs
  demand_3 A I opening header a ps cs f fs = record {
    same = ap (option_map (λ (s : A.State). run A cs s (header ++ first ps) (tail ps))) (a.opens (first ps) f) ∙ ap Some
        (same_trace L A (simulation L A I) cs a.start (opened (first ps)) (header ++ first ps) [] (tail ps)
        (f, a.starts_rest, rw a.starts_at tt, rw a.starts_at (open_view L header (first ps))) fs);
    readable = plain_readable L ps cs;
    read_alone = plain_alone;
    joined = plain_joined ps cs;
    counted = plain_counted ps cs;
    parted = plain_parted L ps cs;
  }

-- The events of T and the whole machine of U, byte by byte; and diagrams at both sides of the profile. The paper leaves the guards' formulas open: these are the ones that are chosen.
use Rattle.std.specs.Prelude.{◌≡◌, Bool, true, false, List, [], ◌∷◌, ◌++◌, map, ℕ}
use Rattle.base.specs.Text.{bytes}
use Rattle.diagram.specs.Tree.{all, Flow, plain, replicator, leaf}
use Rattle.diagram.specs.Drawings.{T, U, nested, wide}
use Rattle.modelling.specs.Profile.{in_profile}
use Rattle.modelling.specs.Texts.{event_text, machine_text}

pub record EventWorked : Type 0 where
  pub drawing : Flow
  pub event : ℕ
  pub text : List ℕ

abbrev pub texts : List EventWorked
texts =
    record {
      drawing = T;
      event = 0;
      text =
          bytes "event v_take\nwhere\n@grd_1 v_free = FALSE\n@grd_2 (v_send = FALSE & v_drop = FALSE)\n@grd_3 v_fill = FALSE\n@grd_4 v_take = FALSE\nthen\n@act_1 v_take := TRUE\nend\n";
    }
    ∷ record {
      drawing = T;
      event = 1;
      text = bytes "event v_fill\nwhere\n@grd_1 v_free = FALSE\n@grd_2 (v_send = FALSE & v_drop = FALSE)\n@grd_3 v_take = TRUE\nthen\n@act_1 v_fill := TRUE\nend\n";
    }
    ∷ record {
      drawing = T;
      event = 2;
      text = bytes "event v_send\nwhere\n@grd_1 v_free = FALSE\n@grd_2 v_take = TRUE\n@grd_3 v_drop = FALSE\n@grd_4 v_send = FALSE\nthen\n@act_1 v_send := TRUE\nend\n";
    }
    ∷ record {
      drawing = T;
      event = 3;
      text = bytes "event v_drop\nwhere\n@grd_1 v_free = FALSE\n@grd_2 v_take = TRUE\n@grd_3 v_send = FALSE\n@grd_4 v_drop = FALSE\nthen\n@act_1 v_drop := TRUE\nend\n";
    }
    ∷ record {
      drawing = T;
      event = 4;
      text = bytes "event v_free\nwhere\n@grd_1 (v_take = TRUE & (v_send = TRUE or v_drop = TRUE))\n@grd_2 v_free = FALSE\nthen\n@act_1 v_free := TRUE\nend\n";
    }
    ∷ []

abbrev pub TextsWorked : List EventWorked → Type 0
TextsWorked ws = map (λ (w : EventWorked). event_text w.drawing w.event) ws ≡ map (λ (w : EventWorked). w.text) ws

-- The whole machine of U.
abbrev pub machine : List ℕ
machine =
    bytes "machine t\nvariables\nv_a\nv_b\nr_r\nv_c\ninvariants\n@inv_1 v_a : BOOL\n@inv_2 v_b : BOOL\n@inv_3 r_r : BOOL\n@inv_4 v_c : BOOL\nevents\n"
    ++ (bytes "event INITIALISATION\nthen\n@act_1 v_a := FALSE\n@act_2 v_b := FALSE\n@act_3 r_r := FALSE\n@act_4 v_c := FALSE\nend\n"
    ++ (bytes "event v_a\nwhere\n@grd_1 v_c = FALSE\n@grd_2 v_b = FALSE\n@grd_3 v_a = FALSE\nthen\n@act_1 v_a := TRUE\nend\n"
    ++ (bytes "event v_b\nwhere\n@grd_1 v_c = FALSE\n@grd_2 v_a = TRUE\n@grd_3 v_b = FALSE\nthen\n@act_1 v_b := TRUE\nend\n"
    ++ (bytes "event r_r\nwhere\n@grd_1 v_c = FALSE\n@grd_2 (v_a = TRUE & v_b = TRUE)\nthen\n@act_1 r_r := TRUE\n@act_2 v_a := FALSE\n@act_3 v_b := FALSE\nend\n"
    ++ bytes "event v_c\nwhere\n@grd_1 ((v_a = TRUE & v_b = TRUE) or (v_a = FALSE & v_b = FALSE))\n@grd_2 v_c = FALSE\nthen\n@act_1 v_c := TRUE\nend\nend\n"))))

abbrev pub MachineWorked : Type 0
MachineWorked = machine_text U ≡ machine

-- In the profile or not: T and U; a root of 32 leaves and of 33; replicators inside each other, and one that makes one copy.
abbrev pub profiles : List (Flow × Bool)
profiles =
    (T, true) ∷ (U, true) ∷ (wide (plain (leaf [])) 0 (plain (leaf [])) 31, true) ∷ (wide (plain (leaf [])) 0 (plain (leaf [])) 32, false) ∷ (nested, false)
    ∷ (wide (replicator all [] 1 (leaf [])) 0 (plain (leaf [])) 1, false) ∷ []

abbrev pub Profiled : List (Flow × Bool) → Type 0
Profiled ps = map (λ p. in_profile p.0) ps ≡ map (λ p. p.1) ps

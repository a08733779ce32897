-- The text of a file restated to a target. "Text: VERSION, then the sections as listed above, DELAYS after ADC, empty ones left out, rows in file order,
-- single spaces, LF, one blank line after each section and each shape (one, not two, where both end). Comments and signature go."
use Rattle.std.specs.Prelude.{ℕ, List, [], ◌++◌, ℤ}
use Rattle.shape.specs.declared.Edition.{Edition}
use Rattle.shape.specs.declared.Edition.TheVariants.{V13, V14}
use Rattle.columns.specs.declared.Form.TheVariants.{Block, Rf, Gradient, Trap, Adc}
use Rattle.section_text.specs.Sections.{version_text, section_text, delay_section}
use Rattle.definition_text.specs.Definitions.{definition_section}
use Rattle.extension_text.specs.Extensions.{extension_section}
use Rattle.shape_section.specs.Shapes.{shape_section}

-- ---- "For 1.3.1 each nonzero duration has one delay row"
unfoldable pub delays_for : Edition → List ℤ → ℕ → List ℕ
delays_for V13 rows n = delay_section rows n
delays_for V14 rows n = []

-- ---- RF, GRADIENTS, TRAP, ADC
unfoldable pub event_sections : Edition → ℕ → List ℤ → ℕ → List ℕ
event_sections target raster rows n =
    section_text target raster Rf rows n ++ (section_text target raster Gradient rows n ++ (section_text target raster Trap rows n ++ section_text target raster Adc rows n))

-- ---- All of it: n rows and their samples, as reading leaves them, the raster of blocks in ns, and the texts that the definitions stand in
unfoldable pub restated_text : Edition → ℕ → List ℕ → List ℕ → List ℤ → ℕ → List ℤ → List ℕ
restated_text target raster file site rows n samples =
    version_text target
    ++ (definition_section target file site
    ++ (section_text target raster Block rows n
    ++ (event_sections target raster rows n
    ++ (delays_for target rows n
    ++ (extension_section target rows n
    ++ shape_section target rows n samples)))))

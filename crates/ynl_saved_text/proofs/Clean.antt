-- What is written of a line has texts that are UTF-8, whole numbers, and keys that ascend; and it is flat.
use Rattle.std.proofs.Common.{◌≤◌, refl, arith}
use Rattle.serde_json.specs.Data.{depth}
use Rattle.ynl_resource.proofs.Ascii.{utf8_name}
use Rattle.ynl_model.specs.declared.proposals.What.{What}
use Rattle.ynl_model.specs.declared.proposals.What.TheVariants.{Master, Ask as Asked}
use Rattle.ynl_model.specs.declared.containers.Placed.{Placed as Container}
use Rattle.ynl_fields.specs.Reading.{HasClock}
use Rattle.ynl_fields.proofs.Printed.{IsClean}
use Rattle.ynl_fields.proofs.Utf8.{ascii, label_utf8, id_utf8, clock_fits, path_utf8, memory_fits, vcores_fit}
use Rattle.ynl_saved.specs.declared.lines.StateLine.{StateLine}
use Rattle.ynl_saved.specs.declared.lines.StateLine.TheVariants.{Begin, Partition, Node, Live, Ask, Finished, Container as Holds, Stopped, Maximum, End}
use Rattle.ynl_saved_text.specs.Sound.{IsWanted, HasParts, IsLine}
use Rattle.ynl_saved_text.specs.StateLines.{container_by, line_data, IsClocked}

clean_container : (w : What) (p : Container) → HasParts p → IsWanted w → HasClock p.id → IsClean (container_by w p)
clean_container Master p h l clock =
    (refl, (utf8_name p.app h.3, (id_utf8 p.id h.0 (clock_fits p.id clock), (memory_fits p.size h.4, (utf8_name p.node h.1, (ascii _ refl, (utf8_name p.tenant h.2, (vcores_fit p.size h.4, (ascii _ refl, tt)))))))))
clean_container (Asked label n) p h l clock =
    (refl, (utf8_name p.app h.3, (id_utf8 p.id h.0 (clock_fits p.id clock), (label_utf8 label l.0, (memory_fits p.size h.4, (utf8_name p.node h.1, (omega (arith, l.1), (ascii _ refl, (utf8_name p.tenant h.2, (vcores_fit p.size h.4, (ascii _ refl, tt)))))))))))

pub clean_line : (l : StateLine) → IsLine l → IsClocked l → IsClean (line_data l)
clean_line Begin h n = (refl, (ascii _ refl, (omega arith, tt)))
clean_line (Partition label clock) h n = (refl, (omega (arith, n), (label_utf8 label h, (ascii _ refl, tt))))
clean_line (Node r) h n = (refl, (label_utf8 r.label h.1, (memory_fits r.size h.2, (utf8_name r.name h.0, (omega (arith, n), (ascii _ refl, (vcores_fit r.size h.2, tt)))))))
clean_line (Live queue app user label master) h n =
    (refl, (utf8_name app h.1, (label_utf8 label h.3, (memory_fits master h.4, (path_utf8 queue h.0.1, (ascii _ refl, (utf8_name user h.2, (vcores_fit master h.4, tt))))))))
clean_line (Ask tenant app ask) h n =
    (refl, (utf8_name app h.1, (omega (arith, n), (label_utf8 ask.label h.2, (memory_fits ask.size h.3, (omega (arith, h.4), (ascii _ refl, (utf8_name tenant h.0, (vcores_fit ask.size h.3, tt)))))))))
clean_line (Finished queue app) h n = (refl, (utf8_name app h.1, (path_utf8 queue h.0.1, (ascii _ refl, tt))))
clean_line (Holds p) h n = clean_container p.what p h.0 h.1 n
clean_line (Stopped queue) h n = (refl, (path_utf8 queue h.1, (ascii _ refl, tt)))
clean_line (Maximum queue label maximum) h n = (refl, (label_utf8 label h.1, (omega (arith, h.2), (path_utf8 queue h.0.1, (ascii _ refl, tt)))))
clean_line (End lines) h n = (refl, (h, (ascii _ refl, tt)))

flat_container : (w : What) (p : Container) → depth (container_by w p) ≤ 1
flat_container Master p = omega arith
flat_container (Asked label priority) p = omega arith

pub flat_line : (l : StateLine) → depth (line_data l) ≤ 1
flat_line (Holds p) = flat_container p.what p
flat_line _ = omega arith

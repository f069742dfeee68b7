pub mod LabelsKnown
pub mod NodesNamed
pub mod QueuesNamed
pub mod AppsNamed
pub mod ContainersNamed
pub mod AsksTold
pub mod FirstReasons
pub mod Submitting

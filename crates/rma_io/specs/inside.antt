pub mod OpenLogs
